-- How many pieces are marked: counts over runs of pieces, and the set bits of the two words, `ones`.
-- The argument: a count over a run is by induction on its length; a word's set bits from bit k on are bit k and those from k + 1 on.
use Rattle.std.proofs.Common.{◌≡◌, ℕ, zero, suc, ◌+◌, ◌-◌, ◌/◌, ◌%◌, ◌^◌, ◌<◌, ◌≤◌, Bool, true, false, eqb, sym, refl, ap, ◌∙◌, ap₂, add-zero, add_assoc, mod-eq_of_lt, suc-add, pow-suc, zero-add, div-one, arith, shr-shr, le-ltb, lt-ltb, ne_eqb, eqb-true}
use native.Mathlib.Nat.{div-eq_of_lt}
use lib.Arith.{lt-one}
use lib.Count.{ones, ones_step}
use lib.Pow.{shr_le}
use borrow.Author.Tests.{eqb-false}
use Rattle.numbers.specs.Pick.{pick, both}
use Rattle.numbers.specs.Bits.{bit}
use Rattle.record.specs.Marks.{most_pieces, piece_marked, marked_from, marked_count}
use Rattle.record.specs.declared.groups.Marks.{Marks}

-- ---- the pieces of each word

pub piece_low : (m : Marks) (k : ℕ) → k < 32 → piece_marked m k ≡ bit m.low k
unfolding piece_marked
piece_low m k h = simp (lt-ltb k most_pieces (omega arith), div-eq_of_lt h, mod-eq_of_lt h)

pub piece_high : (m : Marks) (k : ℕ) → k < 32 → piece_marked m (k + 32) ≡ bit m.high k
unfolding piece_marked
piece_high m k h =
    let one : (k + 32) / 32 ≡ 1 = omega arith in
    let rest : (k + 32) % 32 ≡ k = omega arith in
    simp (lt-ltb (k + 32) most_pieces (omega arith), one, rest)

pub piece_past : (m : Marks) (k : ℕ) → most_pieces ≤ k → piece_marked m k ≡ false
unfolding piece_marked
piece_past m k h = simp (le-ltb k most_pieces h)

-- ---- runs of pieces

-- a run is its first part and the rest
pub split : (m : Marks) (a k b : ℕ) → marked_from m k (a + b) ≡ marked_from m k a + marked_from m (k + a) b
unfolding marked_from
split m zero k b = rw (add-zero k, zero-add b) (sym (zero-add (marked_from m k b)))
split m (suc a) k b =
    let next : k + 1 + a ≡ k + suc a = omega arith in
    rw (suc-add a b, split m a (k + 1) b, next) (sym (add_assoc (pick (piece_marked m k) 1 0) (marked_from m (k + 1) a) (marked_from m (k + suc a) b)))

-- ---- the set bits of a word

digit : (x : ℕ) → x < 2 → pick (eqb x 1) 1 0 ≡ x
digit zero h = refl
digit (suc zero) h = refl
digit (suc (suc x)) h = absurd (omega arith)

ones_from : (word k : ℕ) → pick (bit word k) 1 0 + ones (word / 2 ^ (k + 1)) ≡ ones (word / 2 ^ k)
ones_from word k =
    rw (digit (word / 2 ^ k % 2) (omega arith), ← shr-shr word k 1) (sym (ones_step (word / 2 ^ k)))

ones_zero : (n x : ℕ) → x < 2 ^ n → ones x ≡ 0 → x ≡ 0
ones_zero zero x h e = lt-one h
ones_zero (suc n) x h e =
    let less : x / 2 < 2 ^ n = omega (arith, pow-suc 2 n) in
    let rest : x / 2 ≡ 0 = ones_zero n (x / 2) less (omega (arith, ones_step x)) in
    omega (arith, ones_step x)

-- a word has no set bit exactly when it is 0
pub none_set : (x : ℕ) → x < 2 ^ 32 → eqb (ones x) 0 ≡ eqb x 0
unfolding ones
none_set x h = go (eqb x 0) refl
  where
    go : (b : Bool) → eqb x 0 ≡ b → eqb (ones x) 0 ≡ b
    go true t = rw (eqb-true x 0 t)
    go false t = ne_eqb (ones x) 0 (λ e. eqb-false x 0 t (ones_zero 32 x h e))

zero_sum : (a b : ℕ) → eqb (a + b) 0 ≡ both (eqb b 0) (eqb a 0)
zero_sum a zero = rw (add-zero a)
zero_sum a (suc b) = ne_eqb (a + suc b) 0 (λ e. omega arith) ∙ sym (ap (λ (t : Bool). both t (eqb a 0)) (ne_eqb (suc b) 0 (λ e. omega arith)))

module _ (m : Marks) (o word : ℕ) (same : (i : ℕ) → i < 32 → piece_marked m (i + o) ≡ bit word i) (small : word < 2 ^ 32) where
  -- the pieces of one word, from bit k of it to its end
  count_word : (n k : ℕ) → k + n ≡ 32 → marked_from m (k + o) n ≡ ones (word / 2 ^ k)
  unfolding marked_from ones
  count_word zero k e =
      let end : k ≡ 32 = omega arith in
      rw (end, div-eq_of_lt small)
  count_word (suc n) k e =
      let next : k + o + 1 ≡ k + 1 + o = omega arith in
      rw (same k (omega arith), next, count_word n (k + 1) (omega arith)) (ones_from word k)

module _ (m : Marks) (low : m.low < 2 ^ 32) (high : m.high < 2 ^ 32) where
  pub from_high : (k : ℕ) → k ≤ 32 → marked_from m (k + 32) (32 - k) ≡ ones (m.high / 2 ^ k)
  from_high k h = count_word m 32 m.high (piece_high m) high (32 - k) k (omega arith)

  pub from_low : (k : ℕ) → k ≤ 32 → marked_from m k (most_pieces - k) ≡ ones (m.low / 2 ^ k) + ones m.high
  from_low k h =
      let parts : most_pieces - k ≡ (32 - k) + 32 = omega arith in
      let join : k + (32 - k) ≡ 0 + 32 = omega arith in
      let first = count_word m 0 m.low (λ i l. rw (add-zero i) (piece_low m i l)) low (32 - k) k (omega arith) in
      rw (parts, split m (32 - k) k 32, join)
      (ap₂ (λ (x y : ℕ). x + y) (rw (add-zero k) at first) (from_high 0 (omega arith) ∙ ap ones (div-one m.high)))

  pub count_ones : ones m.low + ones m.high ≡ marked_count m
  count_ones = sym (from_low 0 (omega arith) ∙ rw (div-one m.low))

  pub none_low : (k : ℕ) → k ≤ 32 → eqb (marked_from m k (most_pieces - k)) 0 ≡ both (eqb m.high 0) (eqb (m.low / 2 ^ k) 0)
  none_low k h =
      let part : m.low / 2 ^ k < 2 ^ 32 = omega (arith, shr_le m.low k) in
      rw (from_low k h, zero_sum (ones (m.low / 2 ^ k)) (ones m.high), none_set m.high high, none_set (m.low / 2 ^ k) part)

  pub none_high : (k : ℕ) → 32 ≤ k → k ≤ most_pieces → eqb (marked_from m k (most_pieces - k)) 0 ≡ eqb (m.high / 2 ^ (k - 32)) 0
  none_high k h l =
      let from : k ≡ (k - 32) + 32 = omega arith in
      let left : most_pieces - k ≡ 32 - (k - 32) = omega arith in
      let count = from_high (k - 32) (omega arith) in
      let part : m.high / 2 ^ (k - 32) < 2 ^ 32 = omega (arith, shr_le m.high (k - 32)) in
      rw left (ap (λ (x : ℕ). eqb x 0) (rw (← from) at count) ∙ none_set (m.high / 2 ^ (k - 32)) part)

pub none_past : (m : Marks) (k : ℕ) → most_pieces ≤ k → marked_from m k (most_pieces - k) ≡ 0
unfolding marked_from
none_past m k h =
    let none : most_pieces - k ≡ 0 = omega arith in
    rw none
