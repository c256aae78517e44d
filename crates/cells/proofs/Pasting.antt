-- A copy of n numbers to a place of a run, number by number: what was copied stands there, and what stood before the place and past the copy stays.
-- The argument: a `paste` is three parts one after the other, and an index lies in one of them.
use Prim.Native.Nat.{ℕ, ◌+◌, ◌-◌, ◌≤◌, ◌<◌}
use mathlib.Core.Path.{◌≡◌, sym, ap, ◌∙◌}
use mathlib.Core.List.{List, ◌++◌, append_assoc}
use native.Mathlib.Nat.{add-sub_of_le}
use native.Mathlib.Omega.{arith}
use lib.ListN.{length, take, drop, get_or, get_or-append}
use lib.Seq.{paste, drop-paste, length-take-le, length_paste_head, take_at, drop_at, get_or-drop, get_or-take}

module _ (d : List ℕ) (at : ℕ) (s : List ℕ) (n : ℕ) (p : at + n ≤ length d) (q : n ≤ length s) where
  pub pasted : take n (drop at (paste d at s n)) ≡ take n s
  pasted =
      let rest = take n s ++ drop (at + n) d in
      ap (λ (l : List ℕ). take n (drop at l)) (append_assoc (take at d) (take n s) (drop (at + n) d))
      ∙ ap (λ (l : List ℕ). take n l) (drop_at (take at d) rest at (length-take-le at d (omega arith)))
      ∙ take_at (take n s) (drop (at + n) d) n (length-take-le n s q)

  pub pasted_before : (i : ℕ) → i < at → get_or (paste d at s n) i 0 ≡ get_or d i 0
  pasted_before i h =
      let head : length (take at d ++ take n s) ≡ at + n = length_paste_head d at s n (omega arith) q in
      let own : length (take at d) ≡ at = length-take-le at d (omega arith) in
      get_or-append (take at d ++ take n s) (drop (at + n) d) 0 i (omega arith)
      ∙ get_or-append (take at d) (take n s) 0 i (omega arith)
      ∙ get_or-take at d i 0 h

  pub pasted_after : (i : ℕ) → at + n ≤ i → get_or (paste d at s n) i 0 ≡ get_or d i 0
  pasted_after i h =
      let j = i - (at + n) in
      let e : at + n + j ≡ i = add-sub_of_le h in
      ap (λ (k : ℕ). get_or (paste d at s n) k 0) (sym e)
      ∙ sym (get_or-drop (at + n) (paste d at s n) j 0)
      ∙ ap (λ (l : List ℕ). get_or l j 0) (drop-paste d at s n (omega arith) q)
      ∙ get_or-drop (at + n) d j 0
      ∙ ap (λ (k : ℕ). get_or d k 0) e

  pub pasted_at : (k : ℕ) → k < n → get_or (paste d at s n) (at + k) 0 ≡ get_or s k 0
  pasted_at k h =
      sym (get_or-drop at (paste d at s n) k 0)
      ∙ sym (get_or-take n (drop at (paste d at s n)) k 0 h)
      ∙ ap (λ (l : List ℕ). get_or l k 0) pasted
      ∙ get_or-take n s k 0 h
