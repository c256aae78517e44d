-- What `put` and `size` lean on: how many groups a number has; and a turn of `put`'s loop, which keeps what all stores will make.
-- The argument: the test of 128 decides the case; a group that is stored is taken off the groups that are still to be.
use mathlib.Core.Path.{◌≡◌, refl, ap, sym, ◌∙◌}
use mathlib.Core.List.{List}
use Prim.Native.Nat.{ℕ, zero, suc, ◌+◌, ◌/◌, ◌%◌, ◌^◌, ◌≤◌, ◌<◌}
use native.Mathlib.Numerals.{add-one}
use native.Mathlib.Omega.{arith}
use lib.ListN.{length, set, length-set}
use lib.Seq.{sets}
use Rattle.sevens.specs.Groups.{groups, written}
use Rattle.sevens.proofs.GroupLaws.{groups_last, groups_more, groups_long, rest_small}

-- how many, one group after the other
length_last : (n x : ℕ) → x < 128 → length (groups (suc n) x) ≡ 1
length_last n x h = ap length (groups_last n x h)

length_more : (n x k : ℕ) → 128 ≤ x → length (groups n (x / 128)) ≡ k → length (groups (suc n) x) ≡ suc k
length_more n x k h e = ap length (groups_more n x h) ∙ ap suc e

module _ (x : ℕ) where
  pub size_1 : x < 128 → 1 ≡ length (written x)
  size_1 h = sym (length_last 4 x h)

  pub size_2 : 128 ≤ x → x < 16384 → 2 ≡ length (written x)
  size_2 l h = sym (length_more 4 x 1 l (length_last 3 (x / 128) (omega arith)))

  pub size_3 : 16384 ≤ x → x < 2097152 → 3 ≡ length (written x)
  size_3 l h =
      sym (length_more 4 x 2 (omega arith) (length_more 3 (x / 128) 1 (omega arith) (length_last 2 (x / 128 / 128) (omega arith))))

  pub size_4 : 2097152 ≤ x → x < 268435456 → 4 ≡ length (written x)
  size_4 l h =
      sym
      (length_more 4 x 3 (omega arith)
      (length_more 3 (x / 128) 2 (omega arith)
      (length_more 2 (x / 128 / 128) 1 (omega arith) (length_last 1 (x / 128 / 128 / 128) (omega arith)))))

  pub size_5 : 268435456 ≤ x → x < 4294967296 → 5 ≡ length (written x)
  size_5 l h =
      sym
      (length_more 4 x 4 (omega arith)
      (length_more 3 (x / 128) 3 (omega arith)
      (length_more 2 (x / 128 / 128) 2 (omega arith)
      (length_more 1 (x / 128 / 128 / 128) 1 (omega arith) (length_last 0 (x / 128 / 128 / 128 / 128) (omega arith))))))

-- where the loop stands: the groups of the rest, stored from i on, make what all groups of x do from `at` on
pub record Going (b₀ : List ℕ) (at x : ℕ) (b : List ℕ) (rest i : ℕ) : Type 0 where
  pub left : ℕ
  pub small : rest < 128 ^ suc left
  pub room : i + length (groups (suc left) rest) ≤ length b
  pub size : length b ≡ length b₀
  pub same : sets b i (groups (suc left) rest) ≡ sets b₀ at (written x)

pub begun : (b : List ℕ) (at x : ℕ) → x < 4294967296 → at + length (written x) ≤ length b → Going b at x b x at
begun b at x h room = record { left = 4; small = omega arith; room = room; size = refl; same = refl }

module _ {b₀ : List ℕ} {at x : ℕ} {b : List ℕ} {rest i : ℕ} (g : Going b₀ at x b rest i) where
  pub in_room : i < length b
  in_room = omega (arith, groups_long g.left rest, g.room)

  pub ended : rest < 128 → set b i rest ≡ sets b₀ at (written x)
  ended h = rw (groups_last g.left rest h) at g.same

turned : (b₀ : List ℕ) (at x : ℕ) (b : List ℕ) (rest i n : ℕ)
    → rest < 128 ^ suc n → i + length (groups (suc n) rest) ≤ length b → length b ≡ length b₀
    → sets b i (groups (suc n) rest) ≡ sets b₀ at (written x)
    → 128 ≤ rest → Going b₀ at x (set b i (rest % 128 + 128)) (rest / 128) (i + 1)
turned b₀ at x b rest i zero s r z e h = absurd (omega arith)
turned b₀ at x b rest i (suc n) s r z e h =
    record {
      left = n;
      small = rest_small (suc n) rest s;
      room = rw length-set (omega (arith, rw (groups_more (suc n) rest h) at r));
      size = rw length-set z;
      same = rw (add-one i) (rw (groups_more (suc n) rest h) at e);
    }

pub turn : (b₀ : List ℕ) (at x : ℕ) (b : List ℕ) (rest i : ℕ)
    → Going b₀ at x b rest i → 128 ≤ rest → Going b₀ at x (set b i (rest % 128 + 128)) (rest / 128) (i + 1)
turn b₀ at x b rest i g h = turned b₀ at x b rest i g.left g.small g.room g.size g.same h
