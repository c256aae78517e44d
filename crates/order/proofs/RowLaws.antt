-- The row of a record's written numbers tells the table as far as it is written: read place after place, the entries so far say whether the next number of the row stands at the next
-- place. And tables that are the same as far as they are written have the same row.
-- The argument: a step of the reading is `next_seen`; the row of what is left is the row of what is left behind it, with the place's number before it where it is written.
use Prim.Native.Nat.{ℕ, zero, suc, ◌+◌, ◌≤◌, ◌<◌}
use mathlib.Core.Path.{◌≡◌, refl, ap, sym, subst, ◌∙◌}
use mathlib.Core.Bool.{Bool, true, false}
use mathlib.Core.List.{List, [], ◌∷◌, map}
use native.Mathlib.Omega.{arith}
use lib.ListN.{length, get_or, drop}
use lib.Seq.{drop-cons}
use Rattle.numbers.specs.Pick.{pick}
use Rattle.places.specs.Whole.{whole}
use Rattle.order.specs.Table.{nowhere, table, shown, row_of}
use Rattle.order.specs.declared.Place.{Place}
use Rattle.order.proofs.WholeLaws.{table-length}
use Rattle.order.proofs.EntryLaws.{entry_at, below_or}
use Rattle.order.proofs.Determined.{shape, seen, Named, Before, next_seen, next_written}

never : {A : Type 0} → false ≡ true → A
never e = let z : ◌≡◌ {A = ℕ} 0 1 = cc in absurd (omega arith)

-- a place by what it is like and its number
abbrev with_number : Place → ℕ → Place
with_number e x = record { number = x; bits = e.bits; most = e.most; is_command = e.is_command; is_written = e.is_written }

pub place_eq : (e f : Place) → shape e ≡ shape f → e.number ≡ f.number → e ≡ f
place_eq e f p q = ap (λ (s : Place). with_number s e.number) p ∙ ap (with_number f) q

seen-number : (e f : Place) → e.is_written ≡ f.is_written → (e.is_written ≡ true → e.number ≡ f.number) → (seen e).number ≡ (seen f).number
seen-number e f w n = go e.is_written f.is_written w n
  where
    go : (t u : Bool) → t ≡ u → (t ≡ true → e.number ≡ f.number) → (pick t e nowhere).number ≡ (pick u f nowhere).number
    go true true q k = k refl
    go true false q k = never (sym q)
    go false true q k = never q
    go false false q k = refl

module _ (ws vs : List ℕ) (l : length ws ≡ 1236) (m : length vs ≡ 1236) where
  -- ---- a step of the reading
  pub before_next : (i : ℕ) → i < 1236 → Named ws i → Named vs i → Before ws vs i
      → ((entry_at ws i).is_written ≡ true → (entry_at ws i).number ≡ (entry_at vs i).number) → Before ws vs (suc i)
  before_next i h n k b e j p =
      below_or j i (b j)
      (λ (q : i ≤ j).
      let z : i ≡ j = omega arith in
      subst (λ (t : ℕ). seen (entry_at ws t) ≡ seen (entry_at vs t)) z
      (place_eq (seen (entry_at ws i)) (seen (entry_at vs i)) (next_seen ws vs i l m h n k b) (seen-number (entry_at ws i) (entry_at vs i) (next_written ws vs i l m h n k b) e)))

  -- ---- the row of what is left
  left_row : (us : List ℕ) → length us ≡ 1236 → (i : ℕ) → i < 1236
      → shown (drop i (table (whole us))) ≡ pick (entry_at us i).is_written ((entry_at us i).number ∷ shown (drop (suc i) (table (whole us)))) (shown (drop (suc i) (table (whole us))))
  unfolding shown
  left_row us k i h = ap shown (drop-cons (table (whole us)) i nowhere (omega (arith, table-length us k)))

  heads : (t u : Bool) (x y : ℕ) (xs ys : List ℕ) → t ≡ u → pick t (x ∷ xs) xs ≡ pick u (y ∷ ys) ys → (t ≡ true → x ≡ y) × (xs ≡ ys)
  heads true true x y xs ys q e = (λ r. ap (λ (zs : List ℕ). get_or zs 0 0) e, ap (λ (zs : List ℕ). drop 1 zs) e)
  heads true false x y xs ys q e = never (sym q)
  heads false true x y xs ys q e = never q
  heads false false x y xs ys q e = (λ r. never r, e)

  reading : Named ws 1236 → Named vs 1236 → (left i : ℕ) → i + left ≡ 1236 → Before ws vs i → shown (drop i (table (whole ws))) ≡ shown (drop i (table (whole vs))) → Before ws vs 1236
  reading n k zero i e b s = let z : i ≡ 1236 = omega arith in subst (Before ws vs) z b
  reading n k (suc left) i e b s =
      let h : i < 1236 = omega arith in
      let nn : Named ws i = λ t a p u. n t a (omega arith) u in
      let kk : Named vs i = λ t a p u. k t a (omega arith) u in
      let apart : ((entry_at ws i).is_written ≡ true → (entry_at ws i).number ≡ (entry_at vs i).number) × (shown (drop (suc i) (table (whole ws))) ≡ shown (drop (suc i) (table (whole vs)))) =
      heads (entry_at ws i).is_written (entry_at vs i).is_written (entry_at ws i).number (entry_at vs i).number (shown (drop (suc i) (table (whole ws)))) (shown (drop (suc i) (table (whole vs))))
      (next_written ws vs i l m h nn kk b) (sym (left_row ws l i h) ∙ s ∙ left_row vs m i h)
      in
      reading n k left (suc i) (omega arith) (before_next i h nn kk b apart.0) apart.1

  pub row_before : Named ws 1236 → Named vs 1236 → row_of (whole ws) ≡ row_of (whole vs) → Before ws vs 1236
  row_before n k e = reading n k 1236 0 refl (λ (j : ℕ) (p : j < 0). absurd (omega arith)) e

-- ---- what is seen has the same row
shown-seen : (es : List Place) → shown (map seen es) ≡ shown es
unfolding shown
shown-seen [] = refl
shown-seen (e ∷ es) = go e.is_written refl (shown-seen es)
  where
    go : (t : Bool) → e.is_written ≡ t → shown (map seen es) ≡ shown es
        → pick (pick t e nowhere).is_written ((pick t e nowhere).number ∷ shown (map seen es)) (shown (map seen es)) ≡ pick t (e.number ∷ shown es) (shown es)
    go true q r = ap (λ (u : Bool). pick u (e.number ∷ shown (map seen es)) (shown (map seen es))) q ∙ ap (λ (xs : List ℕ). e.number ∷ xs) r
    go false q r = r

pub seen_row : (ws vs : List ℕ) → map seen (table (whole ws)) ≡ map seen (table (whole vs)) → row_of (whole ws) ≡ row_of (whole vs)
seen_row ws vs e = sym (shown-seen (table (whole ws))) ∙ ap shown e ∙ shown-seen (table (whole vs))
