-- `grown` meets its contract: two sums in turn are one of both, and no command is longer than 48 bytes.
use Rattle.std.proofs.Common.{◌≤◌, ◌∙◌, rules}
use Rattle.numbers.proofs.ModuloLaws.{sum_in_turn}
use Rattle.command.proofs.LayoutLaws.{size_le}
use Rattle.outbox.proofs.pieces.grown.Goals as goal

pub overflow_cast-size : goal.overflow_cast-size
overflow_cast-size c =
    let small : c.size_of-size.result ≤ 48 = rw c.size_of-size.ensures (size_le _) in
    search rules

pub returns : goal.returns
returns c =
    c.wrapping_add_u32.ensures.value
    ∙ rw (c.wrapping_add_u32-more.ensures.value, c.size_of-size.ensures) (sum_in_turn c.args.total _ _)
