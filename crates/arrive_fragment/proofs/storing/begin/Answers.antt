-- `begin` meets its contract: the store is cleared and the block opened, then the piece is added to it.
use mathlib.Core.Path.{ap, ◌∙◌}
use Rattle.arrive_fragment.specs.Calls.{piece_on, with_bytes}
use Rattle.arrive_fragment.proofs.storing.begin.Goals as goal

pub returns : goal.returns
returns c =
    let a = c.args in
    record { words_after = c.add.ensures.words_after ∙ ap (piece_on a.s a.a) c.open.ensures; second_after = c.add.ensures.second_after ∙ ap (with_bytes a.a a.datagram.now) c.clear.ensures }
