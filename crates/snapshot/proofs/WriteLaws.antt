-- What `put` and `write` lean on: a snapshot is its edition's byte, its numbers and its stored bytes, one behind the other; how long it is; and the call by its cases.
-- The argument: the edition is one group; bytes that are set one behind the other are set together; the gate is open only for stores of their lengths.
use Rattle.std.specs.Prelude.{Ok, Err}
use Prim.Native.Nat.{ℕ, ◌+◌, ◌≤◌, ◌<◌}
use mathlib.Core.Path.{◌≡◌, refl, ap, sym, ◌∙◌}
use mathlib.Core.Bool.{Bool, true, false}
use mathlib.Core.List.{List, ◌++◌}
use native.Mathlib.Omega.{arith}
use lib.Dec.{eqb}
use lib.ListN.{length, length-append}
use lib.Seq.{sets}
use borrow.Author.Tests.{eqb-true, eq-eqb, le-leb, lt-leb}
use Rattle.numbers.specs.Pick.{pick}
use Rattle.numbers.specs.declared.refusals.Refusal.TheVariants.{NoRoom, Unreadable}
use Rattle.numbers.proofs.BoolLaws.{both_left, both_right}
use Rattle.command.proofs.ByteLaws.{sets_append}
use Rattle.sevens.specs.Groups.{groups, written}
use Rattle.peer.specs.Damage.{sound}
use Rattle.peer.specs.Gate.{fits, gate_of}
use Rattle.peer.specs.Settings.{fit_settings}
use Rattle.peer.specs.Outcome.{State, Outcome, Came, unchanged}
use Rattle.peer.specs.declared.settings.Settings.{Settings}
use Rattle.peer.proofs.Gates.{AtGate, came_open, openness}
use Rattle.places.specs.Whole.{whole}
use Rattle.places.proofs.Sized.{sized}
use Rattle.order.specs.Table.{table, row_of, used_incoming}
use Rattle.order.proofs.WholeLaws.{table-length}
use Rattle.snapshot_parts.specs.Row.{grouped}
use Rattle.snapshot_parts.specs.Stored.{stored_total, stored_from}
use Rattle.snapshot_parts.proofs.RowLaws.{row_few}
use Rattle.snapshot_parts.proofs.StoredLaws.{stored_length_lem, total_few}
use Rattle.snapshot.specs.Calls.{snapshot_of, lent_both, written_into, writes_snapshot, answer_of}

-- ---- the bytes
-- the edition is one group
pub edition_one : length (written 1) ≡ 1
unfolding groups
edition_one = refl

module _ (x : State) where
  abbrev pub numbers : List ℕ
  numbers = grouped (row_of x.peer)

  abbrev bytes : List ℕ
  bytes = stored_from (used_incoming x.peer) x.store x.second 0 x.peer.incoming

  abbrev pub total : ℕ
  total = stored_total (used_incoming x.peer) 0 x.peer.incoming

  edition_first : snapshot_of x ≡ (written 1 ++ numbers) ++ bytes
  unfolding snapshot_of grouped
  edition_first = refl

  -- where the numbers begin, and where they end
  edition_end : 0 + length (written 1) ≡ 1
  edition_end = omega (arith, edition_one)

  head_length : length (written 1 ++ numbers) ≡ 1 + length numbers
  head_length = length-append (written 1) numbers ∙ ap (λ (n : ℕ). n + length numbers) edition_one

  pub snapshot_length : length x.peer.incoming ≡ 12 → length x.store ≡ 49152 → length x.second ≡ 32768
      → length (snapshot_of x) ≡ 1 + length numbers + total
  snapshot_length l s t =
      ap length edition_first
      ∙ length-append (written 1 ++ numbers) bytes
      ∙ ap (λ (n : ℕ). n + length bytes) head_length
      ∙ ap (λ (n : ℕ). 1 + length numbers + n) (stored_length_lem x.store x.second s t (used_incoming x.peer) 0 x.peer.incoming (omega arith))

  -- where it fits, its parts do
  pub parts_fit : length x.peer.incoming ≡ 12 → length x.store ≡ 49152 → length x.second ≡ 32768 → (n : ℕ) → length (snapshot_of x) ≤ n → 1 + length numbers + total ≤ n
  parts_fit l s t n h = omega (arith, h, snapshot_length l s t)

  -- set one behind the other
  pub put_is : (b b₁ b₂ b₃ : List ℕ) (end : ℕ) → b₁ ≡ sets b 0 (written 1) → b₂ ≡ sets b₁ 1 numbers → end ≡ 1 + length numbers → b₃ ≡ sets b₂ end bytes
      → b₃ ≡ sets b 0 (snapshot_of x)
  put_is b b₁ b₂ b₃ end p q e r =
      r
      ∙ ap (λ (n : ℕ). sets b₂ n bytes) (omega (arith, e, head_length))
      ∙ ap (λ (c : List ℕ). sets c (0 + length (written 1 ++ numbers)) bytes) together
      ∙ sym (ap (sets b 0) edition_first ∙ sets_append (written 1 ++ numbers) bytes b 0)
    where
      together : b₂ ≡ sets b 0 (written 1 ++ numbers)
      together =
          q
          ∙ ap (λ (c : List ℕ). sets c 1 numbers) p
          ∙ ap (λ (n : ℕ). sets (sets b 0 (written 1)) n numbers) (sym edition_end)
          ∙ sym (sets_append (written 1) numbers b 0)

-- ---- of the record that numbers are: no sum is too large
module _ (ws : List ℕ) (l : length ws ≡ 1236) where
  pub numbers_few : length (grouped (row_of (whole ws))) ≤ 6180
  numbers_few = omega (arith, row_few (table (whole ws)), table-length ws l)

pub stored_few : (ws : List ℕ) → stored_total (used_incoming (whole ws)) 0 (whole ws).incoming ≤ 393216
stored_few ws = omega (arith, total_few (used_incoming (whole ws)) 0 (whole ws).incoming, (sized ws).incoming)

-- ---- the stores' lengths
pub lengths_fit : (s : Settings) (x : State) → fits s (lent_both x) ≡ true → (length x.store ≡ 49152) × (length x.second ≡ 32768)
lengths_fit s x f =
    let both_are = both_right (fit_settings s) _ f in (
      eqb-true (length x.store) 49152 (both_left (eqb (length x.store) 49152) _ both_are),
      eqb-true (length x.second) 32768 (both_right (eqb (length x.store) 49152) _ both_are),
    )

fit_open : (f w : Bool) → gate_of f w ≡ Ok tt → f ≡ true
fit_open true w e = refl
fit_open false w e = absurd (omega (arith, ap openness e))

-- ---- the call
module _ (s : Settings) (e : ℕ) (x : State) (b : List ℕ) (g : AtGate s (lent_both x) x.peer) where
  abbrev behind_gate : Outcome (List ℕ)
  behind_gate = pick (eqb e 1) (written_into (snapshot_of x) b) (unchanged Unreadable b)

  module _ (o : g.gate ≡ Ok tt) where
    stores_fit : (length x.store ≡ 49152) × (length x.second ≡ 32768)
    stores_fit = lengths_fit s x (fit_open (fits s (lent_both x)) (sound x.peer) (sym g.is ∙ o))

    module _ (is : e ≡ 1) (l : length x.peer.incoming ≡ 12) (n : ℕ) (size : n ≡ 1 + length (numbers x) + total x) where
      long : n ≡ length (snapshot_of x)
      long = size ∙ sym (snapshot_length x l stores_fit.0 stores_fit.1)

      pub write_room : n ≤ length b → length (snapshot_of x) ≤ length b
      write_room h = omega (arith, long)

      pub write_none : length b < n → Came answer_of (writes_snapshot s e x b) (Err NoRoom) b
      write_none h =
          came_open g b behind_gate answer_of (Err NoRoom) b o
          (rw (eq-eqb e 1 is, lt-leb (length (snapshot_of x)) (length b) (omega (arith, long))) (record { answer = refl; after = refl }))

      pub write_done : n ≤ length b → (c : List ℕ) → c ≡ sets b 0 (snapshot_of x) → Came answer_of (writes_snapshot s e x b) (Ok n) c
      write_done h c q =
          came_open g b behind_gate answer_of (Ok n) c o
          (rw (eq-eqb e 1 is, le-leb (length (snapshot_of x)) (length b) (write_room h)) (record { answer = ap (λ (k : ℕ). answer_of (Ok k)) long; after = q }))
