-- Four numbers of the slot say it.
use mathlib.Core.Path.{◌∙◌}
use Rattle.pool.proofs.Grading.{grade_at_lem}
use Rattle.pool.proofs.grade_at.Goals as goal

pub returns : goal.returns
returns c =
    let a = c.args in
    c.grade_of.ensures ∙ grade_at_lem a.pool.now a.count a.s c.requires.s_lt_outgoing
