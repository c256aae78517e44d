-- A number in bytes: its length and its other bytes stay, what is put is read, and what is read of bytes is put as those bytes.
-- The argument: induction on the width, a byte at a time.
use mathlib.Core.Path.{◌≡◌, refl, ap, ◌∙◌, sym}
use mathlib.Core.List.{List, [], ◌∷◌, ◌++◌}
use Prim.Native.Nat.{ℕ, zero, suc, ◌+◌, ◌-◌, ◌*◌, ◌/◌, ◌%◌, ◌^◌, ◌≤◌, ◌<◌}
use native.Mathlib.Nat.{add-zero, pow-zero, pow-suc}
use native.Mathlib.Omega.{arith}
use lib.ListN.{length, get_or, set, length-set, take, drop, length-drop}
use lib.Seq.{sets, set_comm, get_or-set_same, get_or-set_other, take-suc, get_or-drop, length-take-le}
use Rattle.command.specs.Bytes.{number_at, put_number, Bytes}

pub put-length : (s : List ℕ) (i w x : ℕ) → length (put_number s i w x) ≡ length s
unfolding put_number
put-length s i zero x = refl
put-length s i (suc w) x = length-set (put_number s i w (x / 256)) (i + w) (x % 256) ∙ put-length s i w (x / 256)

-- a byte above the number may be set before it or after it
pub put_set : (s : List ℕ) (i w x p b : ℕ) → i + w ≤ p → put_number (set s p b) i w x ≡ set (put_number s i w x) p b
unfolding put_number
put_set s i zero x p b h = refl
put_set s i (suc w) x p b h =
    ap (λ (l : List ℕ). set l (i + w) (x % 256)) (put_set s i w (x / 256) p b (omega arith))
    ∙ set_comm (put_number s i w (x / 256)) p (i + w) b (x % 256) (λ e. omega arith)

pub put_below : (s : List ℕ) (i w x j : ℕ) → j < i → get_or (put_number s i w x) j 0 ≡ get_or s j 0
unfolding put_number
put_below s i zero x j h = refl
put_below s i (suc w) x j h =
    get_or-set_other (put_number s i w (x / 256)) (i + w) j (x % 256) 0 (λ e. omega arith) ∙ put_below s i w (x / 256) j h

pub put_above : (s : List ℕ) (i w x j : ℕ) → i + w ≤ j → get_or (put_number s i w x) j 0 ≡ get_or s j 0
unfolding put_number
put_above s i zero x j h = refl
put_above s i (suc w) x j h =
    get_or-set_other (put_number s i w (x / 256)) (i + w) j (x % 256) 0 (λ e. omega arith)
    ∙ put_above s i w (x / 256) j (omega arith)

-- only the bytes of the number count
pub number_same : (s t : List ℕ) (i w : ℕ) → ((j : ℕ) → j < i + w → get_or s j 0 ≡ get_or t j 0) → number_at s i w ≡ number_at t i w
unfolding number_at
number_same s t i zero e = refl
number_same s t i (suc w) e =
    let h : number_at s i w ≡ number_at t i w = number_same s t i w (λ j l. e j (omega arith)) in
    omega (arith, e (i + w) (omega arith))

pub number_lt : (s : List ℕ) (i w : ℕ) → Bytes s → number_at s i w < 256 ^ w
unfolding number_at
number_lt s i zero b = rw (pow-zero 256) (omega arith)
number_lt s i (suc w) b = rw (pow-suc 256 w) (omega (arith, number_lt s i w b, b (i + w)))

pub number_put : (s : List ℕ) (i w x : ℕ) → x < 256 ^ w → i + w ≤ length s → number_at (put_number s i w x) i w ≡ x
unfolding number_at put_number
number_put s i zero x l h = omega (arith, rw (pow-zero 256) at l)
number_put s i (suc w) x l h =
    let p = put_number s i w (x / 256) in
    let q : number_at (set p (i + w) (x % 256)) i w ≡ number_at p i w =
    number_same (set p (i + w) (x % 256)) p i w (λ j k. get_or-set_other p (i + w) j (x % 256) 0 (λ e. omega arith))
    in
    let r : x < 256 ^ w * 256 = rw (pow-suc 256 w) at l in
    let n : number_at p i w ≡ x / 256 = number_put s i w (x / 256) (omega arith) (omega arith) in
    let g : get_or (set p (i + w) (x % 256)) (i + w) 0 ≡ x % 256 =
    get_or-set_same p (i + w) (x % 256) 0 (omega (arith, put-length s i w (x / 256)))
    in
    omega arith

-- two runs of stores one after the other are one
pub sets_append : (xs ys l : List ℕ) (i : ℕ) → sets l i (xs ++ ys) ≡ sets (sets l i xs) (i + length xs) ys
sets_append [] ys l i = rw add-zero
sets_append (x ∷ xs) ys l i =
    sets_append xs ys (set l i x) (suc i) ∙ ap (λ (k : ℕ). sets (sets (set l i x) (suc i) xs) k ys) (omega arith)

-- a number that is read of bytes is put as those bytes
pub put_read :
    (s t : List ℕ) (i j w : ℕ) → Bytes s → i + w ≤ length s → put_number t j w (number_at s i w) ≡ sets t j (take w (drop i s))
unfolding number_at put_number
put_read s t i j zero b h = refl
put_read s t i j (suc w) b h =
    let l = b (i + w) in
    let hi : (number_at s i w * 256 + get_or s (i + w) 0) / 256 ≡ number_at s i w = omega arith in
    let lo : (number_at s i w * 256 + get_or s (i + w) 0) % 256 ≡ get_or s (i + w) 0 = omega arith in
    let u : w < length (drop i s) = rw (length-drop i s) (omega arith) in
    let v : length (take w (drop i s)) ≡ w = length-take-le w (drop i s) (omega arith) in
    rw (
      hi,
      lo,
      put_read s t i j w b (omega arith),
      take-suc (drop i s) w 0 u,
      sets_append (take w (drop i s)) (get_or (drop i s) w 0 ∷ []) t j,
      v,
      get_or-drop i s w 0,
    )

-- a turn of the loop that puts a number: the last byte first, and the rest before it
pub put_turn : (s : List ℕ) (i j x : ℕ) → 0 < j → put_number s i j x ≡ put_number (set s (i + (j - 1)) (x % 256)) i (j - 1) (x / 256)
unfolding put_number
put_turn s i zero x h = absurd (omega arith)
put_turn s i (suc j) x h =
    let e : suc j - 1 ≡ j = omega arith in
    rw e (sym (put_set s i j (x / 256) (i + j) (x % 256) (omega arith)))

pub pow_3 : (j : ℕ) → j < 4 → 256 ^ j ≤ 16777216
pow_3 zero h = omega arith
pow_3 (suc zero) h = omega arith
pow_3 (suc (suc zero)) h = omega arith
pow_3 (suc (suc (suc zero))) h = omega arith
pow_3 (suc (suc (suc (suc j)))) h = absurd (omega arith)

pub pow_4 : (w : ℕ) → 4 ≤ w → 2 ^ 32 ≤ 256 ^ w
pow_4 zero h = absurd (omega arith)
pow_4 (suc zero) h = absurd (omega arith)
pow_4 (suc (suc zero)) h = absurd (omega arith)
pow_4 (suc (suc (suc zero))) h = absurd (omega arith)
pow_4 (suc (suc (suc (suc w)))) h = rw (pow-suc 256 (suc (suc (suc w))), pow-suc 256 (suc (suc w)), pow-suc 256 (suc w), pow-suc 256 w) (omega (arith, pos w))
  where
    pos : (n : ℕ) → 0 < 256 ^ n
    pos zero = omega arith
    pos (suc n) = rw pow-suc (omega (arith, pos n))
