-- `held` reads the slot in brief; past the pool there is an empty one.
use Rattle.std.specs.Prelude.{None, Some}
use Rattle.std.proofs.Common.{ap, ◌∙◌}
use Rattle.pool.specs.Slots.{brief_of}
use Rattle.places.specs.Whole.{whole}
use Rattle.acknowledge.proofs.RemovalChanges.{none_held, held_is}
use Rattle.acknowledge.proofs.removal.held.Goals as goal

pub returns-in-Some : goal.returns-in-Some
returns-in-Some c =
    let a = c.args in
    held_is (whole a.words.now) a.slot c.brief_at.result (Some c.in-Some.s) c.in-Some.is c.brief_at.ensures

pub returns-in-None : goal.returns-in-None
returns-in-None c =
    let a = c.args in
    held_is (whole a.words.now) a.slot c.brief_at-in-None.result None c.in-None.is
    (c.brief_at-in-None.ensures ∙ ap brief_of (none_held a.words.now))
