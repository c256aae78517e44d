-- Setting one bit of a word: that bit is then 1, and every other bit is as before.
-- The argument: to set a bit is to `or` with its power of two; a shift of an `or` is the `or` of the shifts, and a power of two has one bit.
use Rattle.std.proofs.Common.{◌≡◌, ℕ, zero, suc, ◌+◌, ◌-◌, ◌*◌, ◌/◌, ◌%◌, ◌^◌, ◌<◌, ◌≤◌, Bool, true, false, eqb, ltb, sym, refl, ap, ◌∙◌, pow-suc, arith, pow_pos, pow_mono, pow-add, ltb-false, ltb-true, eqb-true}
use native.Mathlib.Nat.{div-eq_of_lt, div_self, mul-mod_left}
use lib.Pow.{pow-lt, shl-shr}
use lib.Bits.{bit_and, bit_or, and_high, or_add_and, or_shr, or_mod, or_zero_r}
use borrow.Author.Tests.{eqb-false, lt-leb}
use Rattle.numbers.specs.Pick.{pick}
use Rattle.numbers.specs.Bits.{bit, with_bit}

pow_other : (s k : ℕ) → (k ≡ s → ⊥) → 2 ^ s / 2 ^ k % 2 ≡ 0
pow_other s k h = go (ltb s k) refl
  where
    go : (b : Bool) → ltb s k ≡ b → 2 ^ s / 2 ^ k % 2 ≡ 0
    go true t = rw (div-eq_of_lt (pow-lt (ltb-true s k t)))
    go false t =
        let d : k ≤ s = ltb-false s k t in
        let e : s ≡ suc (s - k - 1) + k = omega (arith, h) in
        rw (e, pow-add 2 (suc (s - k - 1)) k, shl-shr (2 ^ suc (s - k - 1)) k, pow-suc 2 (s - k - 1), mul-mod_left)

or_one : (x : ℕ) → x < 2 → eqb (bit_or x 1) 1 ≡ true
or_one zero h = refl
or_one (suc zero) h = refl
or_one (suc (suc x)) h = absurd (omega arith)

bit_or_lem : (m s k : ℕ) → bit (bit_or m (2 ^ s)) k ≡ pick (eqb k s) true (bit m k)
bit_or_lem m s k = rw (or_shr m (2 ^ s) k, or_mod (m / 2 ^ k) (2 ^ s / 2 ^ k) 1) (go (eqb k s) refl)
  where
    go : (b : Bool) → eqb k s ≡ b → eqb (bit_or (m / 2 ^ k % 2) (2 ^ s / 2 ^ k % 2)) 1 ≡ pick b true (eqb (m / 2 ^ k % 2) 1)
    go true t =
        let q : k ≡ s = eqb-true k s t in
        rw (q, div_self (pow_pos s)) (or_one (m / 2 ^ s % 2) (omega arith))
    go false t = rw (pow_other s k (eqb-false k s t), or_zero_r)

and_pow : (m k : ℕ) → bit_and m (2 ^ k) ≡ m / 2 ^ k % 2 * 2 ^ k
and_pow m k =
    let double : 2 ^ (1 + k) ≡ 2 * 2 ^ k = pow-add 2 1 k in
    let one : 2 ^ (1 + k) - 2 ^ k ≡ 2 ^ k = omega arith in
    ap (bit_and m) (sym one) ∙ and_high m 1 k

-- to `or` with 2^k is to add it, unless the bit is set
pub or_pow : (m k : ℕ) → bit_or m (2 ^ k) ≡ pick (bit m k) m (m + 2 ^ k)
or_pow m k = go (bit m k) refl
  where
    both : bit_or m (2 ^ k) + m / 2 ^ k % 2 * 2 ^ k ≡ m + 2 ^ k
    both = rw (← and_pow m k) (or_add_and m (2 ^ k))

    go : (b : Bool) → bit m k ≡ b → bit_or m (2 ^ k) ≡ pick b m (m + 2 ^ k)
    go true t =
        let e = eqb-true (m / 2 ^ k % 2) 1 t in
        let s : bit_or m (2 ^ k) + 1 * 2 ^ k ≡ m + 2 ^ k = rw e at both in
        omega arith
    go false t =
        let n = eqb-false (m / 2 ^ k % 2) 1 t in
        let e : m / 2 ^ k % 2 ≡ 0 = omega (arith, n) in
        let s : bit_or m (2 ^ k) + 0 * 2 ^ k ≡ m + 2 ^ k = rw e at both in
        omega arith

-- the bits of a word with bit s set
pub bit_with : (m s k : ℕ) → s < 32 → bit (with_bit m s) k ≡ pick (eqb k s) true (bit m k)
unfolding with_bit
bit_with m s k h = rw (lt-leb 32 s h, ← or_pow m s) (bit_or_lem m s k)

-- a word has no bit 32 and none above
pub bit_none : (m k : ℕ) → m < 2 ^ 32 → 32 ≤ k → bit m k ≡ false
bit_none m k l h = go (omega (arith, pow_mono h))
  where
    go : m < 2 ^ k → bit m k ≡ false
    go d = rw (div-eq_of_lt d)

-- no bit of 0 is 1
pub bit_zero : (k : ℕ) → bit 0 k ≡ false
bit_zero k = rw (div-eq_of_lt (pow_pos k))
