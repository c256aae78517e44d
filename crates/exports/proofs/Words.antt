-- The loops over words of four bytes, for any number n of them: what is read and what is left make the whole row, and what is
-- left to write leads to the same bytes. The argument: one word off the row's head at a time.
use mathlib.Core.Path.{◌≡◌, refl, ap, sym, ◌∙◌}
use mathlib.Core.List.{List, [], ◌∷◌, ◌++◌, append_assoc}
use Prim.Native.Nat.{ℕ, zero, suc, ◌+◌, ◌*◌, ◌-◌, ◌/◌, ◌≤◌, ◌<◌}
use native.Mathlib.Numerals.{add-one}
use native.Mathlib.Omega.{arith}
use lib.ListN.{length, get_or, take, drop, replicate}
use lib.Seq.{drop-cons}
use mir.Syntax.{w32}
use Rattle.std.specs.Int.{to_be_bytes}
use Rattle.std.proofs.Common.{subst, inl, inr}
use Rattle.std.proofs.lemmas.Bool.{cases_lt}
use lib.Seq.{sets-eq, drop-drop}
use denote.Param.Members.{Mut}
use Rattle.std.specs.Fn.{Called}
use Rattle.std.specs.Array.{IsFromFnResultFrom}
use Rattle.command.specs.Bytes.{number_at, put_number, row_at, put_row}

one_less : (n i : ℕ) → i < n → n - i ≡ suc (n - (i + 1))
one_less n i h = omega arith

-- a row of words is the words at its places
pub row_by_place : (s ws : List ℕ) (i n : ℕ) → length ws ≡ n → ((k : ℕ) → k < n → get_or ws k 0 ≡ number_at s (i + 4 * k) 4) → ws ≡ row_at s i (replicate n 4)
unfolding row_at
row_by_place s [] i zero l each = refl
row_by_place s [] i (suc n) l each = absurd (omega arith)
row_by_place s (w ∷ ws) i zero l each = absurd (omega arith)
row_by_place s (w ∷ ws) i (suc n) l each =
    let here : i + 4 * 0 ≡ i = omega arith in
    let rest : ws ≡ row_at s (i + 4) (replicate n 4) =
    row_by_place s ws (i + 4) n (omega arith) (λ k h. let p : i + 4 + 4 * k ≡ i + 4 * suc k = omega arith in rw p (each (suc k) (omega arith)))
    in
    let first = each 0 (omega arith) in
    rw (first, here, rest)

-- what calls at one number after the other gave, where each leaves the closure as it was
pub made :
    {F : Type 0} (g : Mut F (ℕ × Unit {0}) ℕ) (f : F) (h : ℕ → ℕ) → ((i r : ℕ) (q : F) → Called g f (i, tt) r q → (r ≡ h i) × (q ≡ f))
    → (ys : List ℕ) (i n : ℕ) → IsFromFnResultFrom g f ys i n → (k : ℕ) → i ≤ k → k < i + n → get_or ys k 0 ≡ h k
made g f h each ys i zero m k a b = absurd (omega arith)
made g f h each ys i (suc n) (q, y, e, called, rest) k a b =
    let one = each i y q called in
    elim (cases_lt i k) [
      | inl l ↦ made g f h each ys (i + 1) n (subst (λ (p : _). IsFromFnResultFrom g p ys (i + 1) n) one.1 rest) k (omega arith) (omega arith)
      | inr m ↦ let here : k ≡ i = omega arith in rw here (e.1 0 ∙ one.0)
    ]

-- the four bytes of a word, each in its place
pub word_put :
    (s : List ℕ) (at x : ℕ) (bytes : List ℕ) → at + 4 ≤ length s → bytes ≡ to_be_bytes w32 x
    → take at s ++ (bytes ++ drop (at + 4 - at) (drop at s)) ≡ put_number s at 4 x
unfolding put_number
word_put s at x bytes h e =
    let a0 : at + 0 ≡ at = omega arith in
    let a1 : at + 1 ≡ suc at = omega arith in
    let a2 : at + 2 ≡ suc (suc at) = omega arith in
    let a3 : at + 3 ≡ suc (suc (suc at)) = omega arith in
    let n : at + 4 - at ≡ 4 = omega arith in
    let p : x / 256 / 256 / 256 ≡ x / 16777216 = omega arith in
    let q : x / 256 / 256 ≡ x / 65536 = omega arith in
    let d : drop 4 (drop at s) ≡ drop (at + 4) s = drop-drop 4 at s in
    rw (e, n, d, p, q, a0, a1, a2, a3) (sym (append_assoc (take at s) (to_be_bytes w32 x) (drop (at + 4) s)) ∙ sym (sets-eq (to_be_bytes w32 x) s at h))

module _ (at : ℕ) (xs : List ℕ) where
  -- the bytes s once the words from word i on are put
  abbrev pub rest : List ℕ → ℕ → List ℕ
  rest s i = put_row s (at + 4 * i) (replicate (length xs - i) 4) (drop i xs)

  pub put_start : (s : List ℕ) → rest s 0 ≡ put_row s at (replicate (length xs) 4) xs
  put_start s =
      let p : at + 4 * 0 ≡ at = omega arith in
      let e : length xs - 0 ≡ length xs = omega arith in
      rw (p, e)

  pub put_step : (s : List ℕ) (i : ℕ) → i < length xs → rest (put_number s (at + 4 * i) 4 (get_or xs i 0)) (i + 1) ≡ rest s i
  unfolding put_row
  put_step s i h =
      let p : at + 4 * i + 4 ≡ at + 4 * (i + 1) = omega arith in
      sym (ap (λ (k : ℕ). put_row s (at + 4 * i) (replicate k 4) (drop i xs)) (one_less (length xs) i h)
      ∙ ap (λ (l : List ℕ). put_row s (at + 4 * i) (replicate (suc (length xs - (i + 1))) 4) l) (drop-cons xs i 0 h)
      ∙ ap (λ (k : ℕ). put_row (put_number s (at + 4 * i) 4 (get_or xs i 0)) k (replicate (length xs - (i + 1)) 4) (drop (suc i) xs)) p
      ∙ ap (λ (k : ℕ). put_row (put_number s (at + 4 * i) 4 (get_or xs i 0)) (at + 4 * (i + 1)) (replicate (length xs - (i + 1)) 4) (drop k xs)) (sym (add-one i)))

  pub put_done : (s : List ℕ) (i : ℕ) → length xs ≤ i → rest s i ≡ s
  unfolding put_row
  put_done s i h = let e : length xs - i ≡ 0 = omega arith in ap (λ (k : ℕ). put_row s (at + 4 * i) (replicate k 4) (drop i xs)) e

-- as many words as the row has places
pub put_all :
    (at n : ℕ) (s xs after : List ℕ) → length xs ≡ n → after ≡ put_row s at (replicate (length xs) 4) xs
    → after ≡ put_row s at (replicate n 4) xs
put_all at n s xs after l e = e ∙ ap (λ (k : ℕ). put_row s at (replicate k 4) xs) l

-- two words and then sixteen are the row of all eighteen
pub headed :
    (a b : ℕ) (s s₁ s₂ row xs : List ℕ) → s₁ ≡ put_number s 0 4 a → s₂ ≡ put_number s₁ 4 4 b → row ≡ xs
    → put_row s₂ 8 (replicate 16 4) row ≡ put_row s 0 (replicate 18 4) (a ∷ b ∷ xs)
unfolding put_row
headed a b s s₁ s₂ row xs first second e =
    ap (λ (t : List ℕ). put_row t 8 (replicate 16 4) row) (second ∙ ap (λ (t : List ℕ). put_number t 4 4 b) first)
    ∙ ap (λ (t : List ℕ). put_row (put_number (put_number s 0 4 a) 4 4 b) 8 (replicate 16 4) t) e
