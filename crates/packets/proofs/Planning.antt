-- The commands of a packet one after another, as the loop over them takes them.
-- The argument: a packet's commands lose their first at each turn, whether it is one command or pieces.
use Prim.Native.Nat.{ℕ, suc, ◌+◌, ◌-◌, ◌≤◌, ◌<◌}
use mathlib.Core.Path.{◌≡◌, refl}
use mathlib.Core.List.{[], ◌∷◌}
use native.Mathlib.Omega.{arith}
use native.Mathlib.Nat.{sub-zero}
use lib.ListN.{length}
use Rattle.packets.specs.Packets.{cut_from}
use Rattle.packets.specs.CodePlans.{pieces_of, count_of, left_of, piece_at, next_at}
use Rattle.packets.specs.declared.plans.Packet.{Packet}
use Rattle.packets.specs.declared.plans.Packet.TheVariants.{One, Pieces}
use Rattle.packets.proofs.Cuts.{cut_length}

pub left_all : (x : Packet) → left_of x (count_of x - 0) 0 0 ≡ pieces_of x
left_all (One x) = refl
left_all (Pieces x) = rw (sub-zero x.count)

pub left-length : (x : Packet) → length (pieces_of x) ≡ count_of x
left-length (One x) = refl
left-length (Pieces x) = cut_length x x.count 0 0

pub left_turn : (x : Packet) (n j offset : ℕ) → j < n → left_of x (n - j) j offset ≡ piece_at x j offset ∷ left_of x (n - (j + 1)) (j + 1) (next_at x offset)
unfolding cut_from
left_turn (One x) n j offset h = let e : n - j ≡ suc (n - (j + 1)) = omega arith in rw e
left_turn (Pieces x) n j offset h = let e : n - j ≡ suc (n - (j + 1)) = omega arith in rw e

pub left_end : (x : Packet) (n j offset : ℕ) → n ≤ j → left_of x (n - j) j offset ≡ []
unfolding cut_from
left_end (One x) n j offset h = let e : n - j ≡ 0 = omega arith in rw e
left_end (Pieces x) n j offset h = let e : n - j ≡ 0 = omega arith in rw e
