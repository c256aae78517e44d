-- C-12: records that are the same have the same stored bytes of the same stores, and as many; and stored bytes that are the same slot by slot are the same.
-- The argument: the same slots are used, and each holds the same in both.
use Prim.Native.Nat.{ℕ, suc, ◌+◌, ◌<◌}
use mathlib.Core.Path.{◌≡◌, refl, ap, sym, subst, ◌∙◌}
use mathlib.Core.Bool.{Bool, true, false}
use mathlib.Core.List.{List, [], ◌∷◌, ◌++◌}
use native.Mathlib.Nat.{zero-add}
use native.Mathlib.Omega.{arith}
use lib.ListN.{length, get_or, replicate, length-replicate}
use Rattle.numbers.specs.Pick.{pick}
use Rattle.record.specs.Fresh.{no_incoming}
use Rattle.record.specs.declared.groups.Incoming.{Incoming}
use Rattle.places.specs.Whole.{whole}
use Rattle.places.proofs.Sized.{sized}
use Rattle.order.specs.Table.{used_incoming}
use Rattle.order.proofs.Retold.{Counts}
use Rattle.snapshot_parts.specs.Stored.{stored_bytes, stored_total, stored_from}
use Rattle.snapshot_parts.proofs.StoredBack.{stored_length_lem}
use Rattle.laws.specs.Same.{Same}
use Rattle.laws.proofs.SameViews.{same_agrees}
use Rattle.laws.proofs.Tables.{agrees_counts}

-- ---- slot by slot
module _ (used used₂ : ℕ → Bool) (a b c d : List ℕ) where
  pub slots_same : (s : ℕ) (is js : List Incoming) → length is ≡ length js → ((k : ℕ) → used k ≡ used₂ k)
      → ((j : ℕ) → j < length is → used (s + j) ≡ true → stored_bytes a b (s + j) (get_or is j no_incoming) ≡ stored_bytes c d (s + j) (get_or js j no_incoming))
      → stored_from used a b s is ≡ stored_from used₂ c d s js
  unfolding stored_from
  slots_same s [] [] l u h = refl
  slots_same s [] (j ∷ js) l u h = absurd (omega arith)
  slots_same s (i ∷ is) [] l u h = absurd (omega arith)
  slots_same s (i ∷ is) (j ∷ js) l u h =
      ap (λ (bs : List ℕ). bs ++ stored_from used a b (s + 1) is)
      (go (used s) refl ∙ ap (λ (t : Bool). pick t (stored_bytes c d s j) []) (u s))
      ∙ ap (λ (bs : List ℕ). pick (used₂ s) (stored_bytes c d s j) [] ++ bs)
      (slots_same (s + 1) is js (omega arith) u
      (λ (k : ℕ) (q : k < length is) (v : used (s + 1 + k) ≡ true).
      let z : s + suc k ≡ s + 1 + k = omega arith in
      subst (λ (n : ℕ). stored_bytes a b n (get_or is k no_incoming) ≡ stored_bytes c d n (get_or js k no_incoming)) z (h (suc k) (omega arith) (ap used z ∙ v))))
    where
      go : (t : Bool) → used s ≡ t → pick t (stored_bytes a b s i) [] ≡ pick t (stored_bytes c d s j) []
      go false w = refl
      go true w =
          let z : s + 0 ≡ s = omega arith in
          subst (λ (n : ℕ). stored_bytes a b n i ≡ stored_bytes c d n j) z (h 0 (omega arith) (ap used z ∙ w))

-- ---- of two records that are the same
module _ (ws vs : List ℕ) (e : Same (whole ws) (whole vs)) where
  counts : Counts ws vs
  counts = agrees_counts ws vs (same_agrees (whole ws) (whole vs) e)

  pub same_used : (s : ℕ) → used_incoming (whole ws) s ≡ used_incoming (whole vs) s
  same_used = counts.in_used

  pub same_slot : (s : ℕ) → used_incoming (whole ws) s ≡ true → get_or (whole ws).incoming s no_incoming ≡ get_or (whole vs).incoming s no_incoming
  same_slot = counts.in_slot

  -- where each used slot has the same bytes
  pub each_same : (a b c d : List ℕ)
      → ((s : ℕ) → used_incoming (whole ws) s ≡ true → stored_bytes a b s (get_or (whole ws).incoming s no_incoming) ≡ stored_bytes c d s (get_or (whole vs).incoming s no_incoming))
      → stored_from (used_incoming (whole ws)) a b 0 (whole ws).incoming ≡ stored_from (used_incoming (whole vs)) c d 0 (whole vs).incoming
  each_same a b c d h =
      slots_same (used_incoming (whole ws)) (used_incoming (whole vs)) a b c d 0 (whole ws).incoming (whole vs).incoming ((sized ws).incoming ∙ sym (sized vs).incoming) same_used
      (λ (j : ℕ) (q : j < length (whole ws).incoming) (u : used_incoming (whole ws) (0 + j) ≡ true).
      subst (λ (n : ℕ). stored_bytes a b n (get_or (whole ws).incoming j no_incoming) ≡ stored_bytes c d n (get_or (whole vs).incoming j no_incoming)) (sym (zero-add j))
      (h j (ap (used_incoming (whole ws)) (sym (zero-add j)) ∙ u)))

  -- of the same stores
  pub same_stored : (a b : List ℕ)
      → stored_from (used_incoming (whole ws)) a b 0 (whole ws).incoming ≡ stored_from (used_incoming (whole vs)) a b 0 (whole vs).incoming
  same_stored a b = each_same a b a b (λ s u. ap (stored_bytes a b s) (same_slot s u))

  pub same_total : stored_total (used_incoming (whole ws)) 0 (whole ws).incoming ≡ stored_total (used_incoming (whole vs)) 0 (whole vs).incoming
  same_total =
      let a : List ℕ = replicate 49152 0 in
      let b : List ℕ = replicate 32768 0 in
      let m : length a ≡ 49152 = length-replicate {A = ℕ} 49152 0 in
      let n : length b ≡ 32768 = length-replicate {A = ℕ} 32768 0 in
      sym (stored_length_lem (used_incoming (whole ws)) a b 0 (whole ws).incoming (omega (arith, m, (sized ws).incoming)) (omega (arith, n)))
      ∙ ap length (same_stored a b)
      ∙ stored_length_lem (used_incoming (whole vs)) a b 0 (whole vs).incoming (omega (arith, m, (sized vs).incoming)) (omega (arith, n))
