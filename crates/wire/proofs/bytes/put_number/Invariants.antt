-- The loop sets a byte a turn, the last first: what is still to be put conserves the whole.
use mathlib.Core.Path.{◌≡◌}
use Rattle.command.specs.Bytes.{put_number}
use Rattle.wire.proofs.bytes.put_number.Given as goal

abbrev pub invariant-loop-j : goal.invariant-loop-j
invariant-loop-j l = put_number l.out l.at l.j l.rest ≡ put_number l.initial.out l.at l.width l.x
