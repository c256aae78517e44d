-- The step by its cases; and the slots that bear a mark: one more slot, as its place's mark says, and what the loop that stores them makes.
-- The argument: the tests pick the case; by induction on the slots.
use Rattle.std.proofs.Common.{◌≡◌, ℕ, zero, suc, ◌+◌, ◌<◌, ◌≤◌, Bool, true, false, eqb, List, [], ◌∷◌, ◌++◌, length, get_or, take, drop, set, sym, refl, ap, ◌∙◌, zero-add, add-one, arith, length-append, length-take, length-take-le, get_or-drop, take-suc, eq-eqb, ne_eqb}
use lib.Seq.{sets}
use Rattle.numbers.specs.Pick.{pick}
use Rattle.cells.specs.Runs.{Makes}
use Rattle.cells.proofs.CellLaws.{sets_snoc, sets_over}
use Rattle.record.specs.Lists.{out_items}
use Rattle.record.specs.declared.groups.Limits.{Limits}
use Rattle.record.specs.declared.groups.Lists.{Lists}
use Rattle.overdue.specs.Overdue.{stays, back_outgoing, back_reliable, is_due, kept_in, next_by, due_by, stays_in, step_by}
use Rattle.overdue.specs.Walking.{bearing, lists_by}
use Rattle.overdue.specs.declared.step.Sent.{Sent}
use Rattle.overdue.specs.declared.step.Walk.{Walk}
use Rattle.overdue.specs.declared.step.After.{After}

module _ (l : Limits) (clock : ℕ) (w : Walk) (o : Sent) where
  abbrev lasting : Bool → After
  lasting b = pick b (due_by l clock w o) (stays_in (kept_in w (next_by w o)) o)

  abbrev going : Bool → After
  going b = pick b (stays_in w o) (lasting (is_due clock o))

  pub step_over : w.over ≡ true → step_by l clock w o ≡ stays_in w o
  step_over e = ap going e

  pub step_due : w.over ≡ false → is_due clock o ≡ true → step_by l clock w o ≡ due_by l clock w o
  step_due e d = ap going e ∙ ap lasting d

  pub step_kept : w.over ≡ false → is_due clock o ≡ false → step_by l clock w o ≡ stays_in (kept_in w (next_by w o)) o
  step_kept e d = ap going e ∙ ap lasting d

module _ (mark : ℕ) where
  -- one more slot
  bearing_snoc : (xs ms : List ℕ) (s : ℕ) → bearing mark ms (xs ++ (s ∷ [])) ≡ pick (eqb (get_or ms (length xs) 0) mark) (bearing mark ms xs ++ (s ∷ [])) (bearing mark ms xs)
  unfolding bearing
  bearing_snoc [] ms s = refl
  bearing_snoc (x ∷ xs) ms s =
      let p : get_or (drop 1 ms) (length xs) 0 ≡ get_or ms (suc (length xs)) 0 = get_or-drop 1 ms (length xs) 0 ∙ ap (λ (k : ℕ). get_or ms k 0) (omega arith) in
      rw (bearing_snoc xs (drop 1 ms) s, p) (go (eqb (get_or ms 0 0) mark) (eqb (get_or ms (suc (length xs)) 0) mark))
    where
      rest : List ℕ
      rest = bearing mark (drop 1 ms) xs

      go : (a b : Bool) → pick a (x ∷ pick b (rest ++ (s ∷ [])) rest) (pick b (rest ++ (s ∷ [])) rest) ≡ pick b (pick a (x ∷ rest) rest ++ (s ∷ [])) (pick a (x ∷ rest) rest)
      go true true = refl
      go true false = refl
      go false true = refl
      go false false = refl

  -- no more bear it than there are
  pub bearing-length : (ms xs : List ℕ) → length (bearing mark ms xs) ≤ length xs
  unfolding bearing
  bearing-length ms [] = omega arith
  bearing-length ms (x ∷ xs) = go (eqb (get_or ms 0 0) mark) (bearing-length (drop 1 ms) xs)
    where
      go : (b : Bool) → length (bearing mark (drop 1 ms) xs) ≤ length xs
          → length (pick b (x ∷ bearing mark (drop 1 ms) xs) (bearing mark (drop 1 ms) xs)) ≤ length (x ∷ xs)
      go true h = omega arith
      go false h = omega arith

-- after k places of the cells: what bears the mark is stored into a base from its first cell on
pub record Borne (mark : ℕ) (marks cells base : List ℕ) (k : ℕ) (slots : List ℕ) (m : ℕ) : Type 0 where
  pub count : m ≡ length (bearing mark marks (take k cells))
  pub stored : slots ≡ sets base 0 (bearing mark marks (take k cells))

module _ (mark : ℕ) (marks cells base : List ℕ) where
  pub borne_none : Borne mark marks cells base 0 base 0
  unfolding bearing
  borne_none = record { count = refl; stored = refl }

  module _ {k m : ℕ} {slots : List ℕ} (b : Borne mark marks cells base k slots m) where
    pub borne_low : m ≤ k
    borne_low = omega (arith, b.count, bearing-length mark marks (take k cells), length-take k cells)

    pub borne_made : k ≤ length base → Makes base (bearing mark marks (take k cells)) m slots
    borne_made h =
        record {
          count = b.count;
          fits = omega (arith, borne_low);
          cells = b.stored ∙ sets_over base (bearing mark marks (take k cells)) 0 (omega (arith, b.count, borne_low));
        }

    module _ (h : k < length cells) where
      one_more : bearing mark marks (take (k + 1) cells) ≡ pick (eqb (get_or marks k 0) mark) (bearing mark marks (take k cells) ++ (get_or cells k 0 ∷ [])) (bearing mark marks (take k cells))
      one_more =
          let e : length (take k cells) ≡ k = length-take-le k cells (omega arith) in
          rw (add-one k, take-suc cells k 0 h) (rw e at (bearing_snoc mark (take k cells) marks (get_or cells k 0)))

      pub borne_with : get_or marks k 0 ≡ mark → Borne mark marks cells base (k + 1) (set slots m (get_or cells k 0)) (m + 1)
      borne_with e =
          let t : bearing mark marks (take (k + 1) cells) ≡ bearing mark marks (take k cells) ++ (get_or cells k 0 ∷ []) = rw (eq-eqb _ _ e) at one_more in
          record {
            count = rw (t, b.count) (simp length-append (omega arith));
            stored = rw (t, b.stored, b.count) (sym (rw zero-add at (sets_snoc (bearing mark marks (take k cells)) base 0 (get_or cells k 0))));
          }

      pub borne_without : (get_or marks k 0 ≡ mark → ⊥) → Borne mark marks cells base (k + 1) slots m
      borne_without e =
          let t : bearing mark marks (take (k + 1) cells) ≡ bearing mark marks (take k cells) = rw (ne_eqb _ _ e) at one_more in
          record { count = b.count ∙ ap length (sym t); stored = b.stored ∙ ap (sets base 0) (sym t) }

-- marks past the slots do not matter
bearing_within : (mark n : ℕ) (ms xs : List ℕ) → length xs ≤ n → bearing mark (take n ms) xs ≡ bearing mark ms xs
unfolding bearing
bearing_within mark n ms [] h = refl
bearing_within mark zero ms (x ∷ xs) h = absurd (omega arith)
bearing_within mark (suc n) [] (x ∷ xs) h = refl
bearing_within mark (suc n) (m ∷ ms) (x ∷ xs) h = rw (bearing_within mark n ms xs (omega arith))

pub lists_within : (n : ℕ) (ms : List ℕ) (l : Lists) → length (out_items l.sent) ≤ n → lists_by (take n ms) l ≡ lists_by ms l
lists_within n ms l h =
    let sent = out_items l.sent in
    rw (bearing_within stays n ms sent h, bearing_within back_reliable n ms sent h, bearing_within back_outgoing n ms sent h)
