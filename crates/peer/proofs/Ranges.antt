-- What a sound record has in range: MTU and channel count. The argument: the first clause of soundness.
use Prim.Native.Nat.{◌≤◌}
use mathlib.Core.Path.{◌≡◌}
use mathlib.Core.Bool.{true}
use lib.Dec.{leb}
use borrow.Author.Tests.{leb-true}
use Rattle.numbers.specs.Limits.{least_mtu, most_mtu, mtu_fits}
use Rattle.numbers.proofs.BoolLaws.{both_left, both_right}
use Rattle.record.specs.Damage.{ranged}
use Rattle.record.specs.Sizes.{channels}
use Rattle.peer.specs.Damage.{sound}
use Rattle.peer.specs.declared.Peer.{Peer}
use Rattle.peer.proofs.Clauses.{sound_clauses}

module _ (p : Peer) (h : sound p ≡ true) where
  in_range : ranged p.flow.mtu p.standing.channels ≡ true
  in_range = (sound_clauses p h).range

  mtu_in : mtu_fits p.flow.mtu ≡ true
  mtu_in = both_left (mtu_fits p.flow.mtu) _ in_range

  pub mtu_low : least_mtu ≤ p.flow.mtu
  mtu_low = leb-true least_mtu p.flow.mtu (both_left (leb least_mtu p.flow.mtu) _ mtu_in)

  pub mtu_high : p.flow.mtu ≤ most_mtu
  mtu_high = leb-true p.flow.mtu most_mtu (both_right (leb least_mtu p.flow.mtu) _ mtu_in)

  pub count_high : p.standing.channels ≤ channels
  count_high = leb-true p.standing.channels channels (both_right (mtu_fits p.flow.mtu) _ in_range)
