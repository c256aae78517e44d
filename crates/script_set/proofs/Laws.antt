-- The walk over numbers, their copy, and the bits that a number fits. The argument: the definition on all of them is the definition on those that are left; a
-- number fits n bits where nothing of it is left above them.
use Prim.Native.Nat.{ℕ, ◌+◌, ◌*◌, ◌-◌, ◌/◌, ◌^◌, ◌≤◌, ◌<◌}
use mathlib.Core.Path.{◌≡◌, refl, ap, sym, ◌∙◌}
use mathlib.Core.Bool.{Bool, true, false}
use mathlib.Core.List.{List, [], ◌∷◌, ◌++◌, append_assoc}
use native.Mathlib.Nat.{add-zero}
use native.Mathlib.Numerals.{add-one}
use native.Mathlib.Omega.{arith}
use lib.Dec.{ltb, eqb}
use lib.ListN.{length, get_or, set, take, drop, drop_of_length-le}
use lib.Pow.{pow_mono, shr_lt, shr_mono, shl-shr}
use lib.Seq.{sets, sets-eq, drop-drop, drop-cons}
use borrow.Author.Tests.{lt-ltb, ltb-true, ltb-false, eq-eqb, ne_eqb}
use Rattle.numbers.specs.Pick.{both}
use Rattle.command.proofs.ByteLaws.{sets_append}
use Rattle.peer.specs.declared.Peer.{Peer}
use Rattle.script_set.specs.Setting.{fits_at, all_fit}

-- the numbers fit one after the other
module _ (p : Peer) (xs : List ℕ) (i : ℕ) where
  pub fit_start : all_fit p i xs ≡ all_fit p (i + 0) xs
  fit_start = rw add-zero

  rest : (j : ℕ) → j < length xs → drop j xs ≡ get_or xs j 0 ∷ drop (j + 1) xs
  rest j h = rw (add-one, drop-cons xs j 0)

  pub fit_turn : (j : ℕ) → j < length xs → fits_at p (i + j) (get_or xs j 0) ≡ true → all_fit p (i + j) (drop j xs) ≡ all_fit p (i + (j + 1)) (drop (j + 1) xs)
  unfolding all_fit
  fit_turn j h t =
      let a : i + j + 1 ≡ i + (j + 1) = omega arith in
      ap (all_fit p (i + j)) (rest j h)
      ∙ ap (λ (b : Bool). both b (all_fit p (i + j + 1) (drop (j + 1) xs))) t
      ∙ ap (λ (m : ℕ). all_fit p m (drop (j + 1) xs)) a

  pub fit_none : (j : ℕ) → j < length xs → fits_at p (i + j) (get_or xs j 0) ≡ false → all_fit p (i + j) (drop j xs) ≡ false
  unfolding all_fit
  fit_none j h t = ap (all_fit p (i + j)) (rest j h) ∙ ap (λ (b : Bool). both b (all_fit p (i + j + 1) (drop (j + 1) xs))) t

  pub fit_end : (j : ℕ) → length xs ≤ j → all_fit p (i + j) (drop j xs) ≡ true
  unfolding all_fit
  fit_end j h = ap (all_fit p (i + j)) (drop_of_length-le xs {i = j} h)

-- numbers copied are set one after the other
pub copied : (ws xs : List ℕ) (i : ℕ) → i + length xs ≤ length ws → take i ws ++ (xs ++ drop (i + length xs - i) (drop i ws)) ≡ sets ws i xs
copied ws xs i h =
    let n : i + length xs - i ≡ length xs = omega arith in
    rw (n, drop-drop (length xs) i ws) (sym (append_assoc (take i ws) xs (drop (i + length xs) ws)) ∙ sym (sets-eq xs ws i h))

-- sixteen numbers set, and one behind them
pub one_behind : (ws row xs : List ℕ) (i kind k : ℕ) → length row ≡ 16 → row ≡ xs → kind ≡ k → set (sets ws i row) (i + 16) kind ≡ sets ws i (xs ++ (k ∷ []))
one_behind ws row xs i kind k l e f =
    let n : length xs ≡ 16 = ap length (sym e) ∙ l in
    rw (f, e, ← n) (sym (sets_append xs (k ∷ []) ws i))

-- nothing of it is left above n bits
pub fits_bits : (x n : ℕ) → eqb (x / 2 ^ n) 0 ≡ ltb x (2 ^ n)
fits_bits x n = go (ltb x (2 ^ n)) refl
  where
    go : (b : Bool) → ltb x (2 ^ n) ≡ b → eqb (x / 2 ^ n) 0 ≡ b
    go true e =
        let z : 0 + n ≡ n = omega arith in
        let h : x < 2 ^ (0 + n) = rw z (ltb-true x (2 ^ n) e) in
        let l : x / 2 ^ n < 2 ^ 0 = shr_lt 0 n h in
        eq-eqb (x / 2 ^ n) 0 (omega arith)
    go false e =
        let one : 1 * 2 ^ n / 2 ^ n ≡ 1 = shl-shr 1 n in
        let l : 1 * 2 ^ n ≤ x = omega (arith, ltb-false x (2 ^ n) e) in
        let m : 1 * 2 ^ n / 2 ^ n ≤ x / 2 ^ n = shr_mono n l in
        ne_eqb (x / 2 ^ n) 0 (λ z. omega (arith, z, m, one))

pub fits_all : (x n : ℕ) → x < 4294967296 → 32 ≤ n → ltb x (2 ^ n) ≡ true
fits_all x n h l = lt-ltb x (2 ^ n) (omega (arith, pow_mono l))
