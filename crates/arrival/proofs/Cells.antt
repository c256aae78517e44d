-- What laying bytes into a store does to it: its length stays, from the place on stands the payload, every other byte is as it was.
-- The argument: the tests pick between a `paste` and the store itself; the laws of `paste` are those of its three parts.
use Rattle.std.proofs.Common.{◌≡◌, ℕ, ◌+◌, ◌<◌, ◌≤◌, Bool, true, false, leb, ◌⊎◌, List, length, get_or, take, drop, refl, ap, ◌∙◌, ⊎_elim, arith, length-drop, le-leb, leb-true}
use lib.Seq.{paste, length-paste}
use borrow.Author.Tests.{lt-leb}
use Rattle.numbers.specs.Pick.{pick, both}
use Rattle.cells.proofs.Pasting.{pasted, pasted_before, pasted_after}
use Rattle.arrival.specs.Storing.{laid, within_datagram}

-- what is left of a list from a place on
left : (s : List ℕ) (from n : ℕ) → from + n ≤ length s → n ≤ length (drop from s)
left s from n h = rw (length-drop from s) (omega arith)

module _ (store : List ℕ) (to : ℕ) (datagram : List ℕ) (place n : ℕ) where
  pub laid_is : to + n ≤ length store → place + n ≤ length datagram → laid store to datagram place n ≡ paste store to (drop place datagram) n
  laid_is p q = rw (le-leb (to + n) (length store) p, le-leb (place + n) (length datagram) q)

  -- where one of the two is too short nothing changes
  pub laid_short : length store < to + n → laid store to datagram place n ≡ store
  laid_short p = rw (lt-leb (to + n) (length store) p)

  pub laid_ended : length datagram < place + n → laid store to datagram place n ≡ store
  laid_ended q = rw (lt-leb (place + n) (length datagram) q) (either (leb (to + n) (length store)))
    where
      either : (b : Bool) → pick (both b false) (paste store to (drop place datagram) n) store ≡ store
      either true = refl
      either false = refl

  -- what holds of a copy that fits and of the store as it is holds of what is laid
  laid_has :
      (P : List ℕ → Type 0)
      → (to + n ≤ length store → n ≤ length (drop place datagram) → P (paste store to (drop place datagram) n))
      → P store
      → P (laid store to datagram place n)
  laid_has P pasted-too same = go (leb (to + n) (length store)) (within_datagram datagram place n) refl refl
    where
      go : (a b : Bool)
          → leb (to + n) (length store) ≡ a
          → within_datagram datagram place n ≡ b
          → P (pick (both a b) (paste store to (drop place datagram) n) store)
      go true true t u = pasted-too (leb-true (to + n) (length store) t) (left datagram place n (leb-true (place + n) (length datagram) u))
      go true false t u = same
      go false b t u = same

  pub laid-length : length (laid store to datagram place n) ≡ length store
  laid-length =
      laid_has (λ (l : List ℕ). length l ≡ length store) (λ p q. length-paste store to (drop place datagram) n p q) refl

  pub laid_payload : to + n ≤ length store → place + n ≤ length datagram
      → take n (drop to (laid store to datagram place n)) ≡ take n (drop place datagram)
  laid_payload p q =
      ap (λ (l : List ℕ). take n (drop to l)) (laid_is p q)
      ∙ pasted store to (drop place datagram) n p (left datagram place n q)

  pub laid_others : (i : ℕ) → (i < to) ⊎ (to + n ≤ i) → get_or (laid store to datagram place n) i 0 ≡ get_or store i 0
  laid_others i out =
      laid_has (λ (l : List ℕ). get_or l i 0 ≡ get_or store i 0)
      (λ p q.
      ⊎_elim
      (λ h. pasted_before store to (drop place datagram) n p q i h)
      (λ h. pasted_after store to (drop place datagram) n p q i h)
      out)
      refl
