-- `add` meets its contract: the bytes are laid, the piece is marked, and the channel is dispatched where none remains.
use mathlib.Core.Path.{ap, ◌∙◌}
use Rattle.arrive_fragment.specs.Calls.{finished_on}
use Rattle.arrive_fragment.proofs.storing.add.Goals as goal

pub returns : goal.returns
returns c =
    let a = c.args in
    record { words_after = c.finish.ensures ∙ ap (finished_on a.s a.a) c.mark.ensures; second_after = c.lay.ensures }
