-- An array that a function of the place makes; a list that is filled from its head with another's elements: a turn, and the end; the same where the list stands in the record.
-- The argument: place by place; one more of the first is right, and at the end nothing of the old list is left.
use denote.Param.Members.{Mut}
use Rattle.std.specs.Fn.{Called}
use Rattle.std.specs.Array.{IsFromFnResult, IsFromFnResultFrom}
use Prim.Native.Nat.{ℕ, zero, suc, ◌+◌, ◌≤◌, ◌<◌}
use mathlib.Core.Path.{◌≡◌, refl, subst, ap, sym, ◌∙◌}
use mathlib.Core.List.{List, ◌++◌, append-nil}
use native.Mathlib.Omega.{arith}
use lib.ListN.{length, get_or, set, take, drop_of_length-le}
use lib.Seq.{ext_get_or, get_or-take, length-take-le, paste, paste-suc, take_all}
use Rattle.peer.specs.declared.Peer.{Peer}

-- an array made by a function of the place is a list, where that gives the list's elements and stays as it is
module _ {F B : Type 0} (g : Mut F (ℕ × Unit {0}) B) (f : F) (ys xs : List B) (d : B) (law : (k : ℕ) (y : B) (q : F) → Called g f (k, tt) y q → (q ≡ f) × (y ≡ get_or xs k d)) where
  made_at : (i n : ℕ) (h : F) → h ≡ f → IsFromFnResultFrom g h ys i n → (k : ℕ) → k < n → get_or ys (i + k) d ≡ get_or xs (i + k) d
  made_at i zero h e each k b = absurd (omega arith)
  made_at i (suc n) h e each zero b =
      let o : i + 0 ≡ i = omega arith in
      let called = subst (λ (s : F). Called g s (i, tt) each.1 each.0) e each.3 in
      rw o (each.2.1 d ∙ (law i each.1 each.0 called).1)
  made_at i (suc n) h e each (suc k) b =
      let o : i + suc k ≡ i + 1 + k = omega arith in
      let called = subst (λ (s : F). Called g s (i, tt) each.1 each.0) e each.3 in
      rw o (made_at (i + 1) n each.0 (law i each.1 each.0 called).0 each.4 k (omega arith))

  pub from_fn_front : (n : ℕ) → IsFromFnResult g f ys n → n ≤ length xs → ys ≡ take n xs
  from_fn_front n r m =
      ext_get_or d ys (take n xs) (r.long ∙ sym (length-take-le n xs m))
      (λ k b.
      let h : k < n = omega (arith, r.long) in
      let z : 0 + k ≡ k = omega arith in
      (rw z at (made_at 0 n f refl r.each k h)) ∙ sym (get_or-take n xs k d h))

  pub from_fn_is : (n : ℕ) → IsFromFnResult g f ys n → length xs ≡ n → ys ≡ xs
  from_fn_is n r m = from_fn_front n r (omega arith) ∙ take_all n xs (omega arith)

module _ {A : Type 0} where
  -- a turn
  pub fill_turn : (d e s : List A) (j : ℕ) (z x : A) → j < length d → j < length s → e ≡ paste d 0 s j → x ≡ get_or s j z → set e j x ≡ paste d 0 s (j + 1)
  fill_turn d e s j z x p q h v =
      let o : j ≡ 0 + j = omega arith in
      let b : 0 + j < length d = omega arith in
      let n : suc j ≡ j + 1 = omega arith in
      ap (λ (l : List A). set l j x) h
      ∙ ap (λ (y : A). set (paste d 0 s j) j y) v
      ∙ ap (λ (k : ℕ). set (paste d 0 s j) k (get_or s j z)) o
      ∙ paste-suc d 0 s j z b q
      ∙ ap (λ (k : ℕ). paste d 0 s k) n

  pub fill_front : (d s : List A) (n : ℕ) → length d ≡ n → paste d 0 s n ≡ take n s
  fill_front d s n e =
      let z : 0 + n ≡ n = omega arith in
      let h : length d ≤ 0 + n = omega arith in
      ap (λ (l : List A). take n s ++ l) (drop_of_length-le d h) ∙ append-nil (take n s)

  pub fill_end : (d s : List A) (n : ℕ) → length d ≡ n → length s ≡ n → paste d 0 s n ≡ s
  fill_end d s n e f = let h : length s ≤ n = omega arith in fill_front d s n e ∙ take_all n s h

  -- a list of the record
  module _ (get : Peer → List A) (put : Peer → List A → Peer) (over : (p : Peer) (x y : List A) → put (put p x) y ≡ put p y) (got : (p : Peer) (x : List A) → get (put p x) ≡ x) where
    pub put_turn : (p₀ p q : Peer) (s : List A) (n i : ℕ) (z x : A) → length (get p₀) ≡ n → length s ≡ n → i < n
        → p ≡ put p₀ (paste (get p₀) 0 s i) → q ≡ put p (set (get p) i x) → x ≡ get_or s i z → q ≡ put p₀ (paste (get p₀) 0 s (i + 1))
    put_turn p₀ p q s n i z x l m h e f v =
        let a = paste (get p₀) 0 s i in
        let bl : i < length (get p₀) = omega arith in
        let bm : i < length s = omega arith in
        f
        ∙ ap (λ (r : Peer). put r (set (get r) i x)) e
        ∙ over p₀ a (set (get (put p₀ a)) i x)
        ∙ ap (put p₀) (fill_turn (get p₀) (get (put p₀ a)) s i z x bl bm (got p₀ a) v)

    pub put-end : (p₀ p : Peer) (s : List A) (n i : ℕ) → length (get p₀) ≡ n → length s ≡ n → i ≡ n → p ≡ put p₀ (paste (get p₀) 0 s i) → p ≡ put p₀ s
    put-end p₀ p s n i l m h e = e ∙ ap (λ (k : ℕ). put p₀ (paste (get p₀) 0 s k)) h ∙ ap (put p₀) (fill_end (get p₀) s n l m)
