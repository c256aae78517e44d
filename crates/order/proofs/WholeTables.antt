-- Tables that are the same as far as they are written are the same altogether where the free slots' fields have the same kinds.
-- The argument: what is not written has the number 0, and what it is like besides the entries before it tell (`next_shape`).
use Prim.Native.Nat.{ℕ, zero, suc, ◌+◌, ◌*◌, ◌≤◌, ◌<◌}
use mathlib.Core.Path.{◌≡◌, refl, ap, sym, subst, ◌∙◌}
use mathlib.Core.Bool.{Bool, true, false}
use mathlib.Core.List.{List}
use native.Mathlib.Omega.{arith}
use lib.Dec.{leb, ltb, eqb}
use lib.ListN.{length, get_or}
use lib.Seq.{take_all}
use Rattle.numbers.specs.Pick.{pick}
use Rattle.command.specs.Layout.{width_of}
use Rattle.lists.specs.Rows.{low}
use Rattle.pool.specs.Slots.{kind_from}
use Rattle.places.specs.Whole.{whole}
use Rattle.order.specs.Table.{plain, nowhere, slot_bits, in_slot_bits, used_outgoing, used_incoming, table}
use Rattle.order.specs.CodeCuts.{cut_place, field_from, command_place}
use Rattle.order.specs.declared.Place.{Place}
use Rattle.order.proofs.TableLaws.{shown_if}
use Rattle.order.proofs.PartLaws.{list_at}
use Rattle.order.proofs.WholeLaws.{table-length}
use Rattle.order.proofs.EntryLaws.{entry_at, own_entry, group_entry, mark_entry, list_entry, dispatched_entry, number_entry, held_entry, slot_number_entry, slot_command_entry, slot_kind_entry, in_slot_entry, length_of_list, cell_of_list, command_by, Regions, by_region}
use Rattle.order.proofs.Determined.{shape, seen, Named, Free, Before, next_shape}
use Rattle.order.proofs.Agreement.{take_entries}
use Rattle.order.proofs.RowLaws.{place_eq}

-- "What is not written reads 0"
abbrev pub Hidden : Place → Type 0
Hidden e = e.is_written ≡ false → e.number ≡ 0

never : {A : Type 0} → true ≡ false → A
never e = let z : ◌≡◌ {A = ℕ} 1 0 = cc in absurd (omega arith)

hidden_shown : (t : Bool) (e : Place) → Hidden e → Hidden (shown_if t e)
hidden_shown true e h = h
hidden_shown false e h = λ q. refl

hidden_command : (a b : Bool) (n x : ℕ) → Hidden (command_by a b (cut_place n x))
hidden_command true b n x q = never q
hidden_command false true n x q = never q
hidden_command false false n x q = refl

hidden_list : (ws : List ℕ) (at size : ℕ) → at + size + 1 ≤ length ws → (j : ℕ) → j ≤ size → Hidden (get_or (list_at at size ws) j nowhere)
hidden_list ws at size h zero b = subst Hidden (sym (length_of_list ws at size h)) (λ q. never q)
hidden_list ws at size h (suc j) b =
    subst Hidden (sym (cell_of_list ws at size h (suc j) (omega arith) b))
    (hidden_shown (leb (suc j) (low (get_or ws at 0))) (plain 16 (low (get_or ws (at + suc j) 0))) (λ q. never q))

module _ (ws : List ℕ) (l : length ws ≡ 1236) where
  abbrev HiddenAt : ℕ → Type 0
  HiddenAt i = Hidden (entry_at ws i)

  regions : Regions HiddenAt
  regions =
      record {
        own = λ i h. subst Hidden (sym (own_entry ws l i h)) (λ q. never q);
        list = λ q j h p. subst Hidden (sym (list_entry ws l q j h p)) (hidden_list ws (43 + q * 33) 32 (omega arith) j p);
        dispatched = λ j p. subst Hidden (sym (dispatched_entry ws l j p)) (hidden_list ws 142 12 (omega arith) j p);
        group = λ j h. subst Hidden (sym (group_entry ws l j h)) (λ q. never q);
        number = λ c j h p. subst Hidden (sym (number_entry ws l c j h p)) (hidden_shown (ltb c (get_or ws 6 0)) (plain 16 (low (get_or ws (194 + c * 17 + j) 0))) (λ q. never q));
        held = λ c j h p. subst Hidden (sym (held_entry ws l c j h p))
            (hidden_shown (ltb c (get_or ws 6 0)) (get_or (list_at (194 + c * 17 + 4) 12 ws) j nowhere) (hidden_list ws (194 + c * 17 + 4) 12 (omega arith) j p));
        slot = λ s j h p. subst Hidden (sym (slot_number_entry ws l s j h p))
            (hidden_shown (used_outgoing (whole ws) s) (cut_place (get_or (slot_bits 1) j 0) (get_or ws (330 + s * 26 + j) 0)) (λ q. never q));
        command = λ s j h p. subst Hidden (sym (slot_command_entry ws l s j h p))
            (hidden_shown (used_outgoing (whole ws) s) (command_place (get_or ws (330 + s * 26 + 25) 0) j (get_or ws (330 + s * 26 + (9 + j)) 0))
            (hidden_command (eqb j 0) (ltb 0 (width_of (kind_from (get_or ws (330 + s * 26 + 25) 0)) j)) (8 * width_of (kind_from (get_or ws (330 + s * 26 + 25) 0)) j)
            (field_from (get_or ws (330 + s * 26 + 25) 0) j (get_or ws (330 + s * 26 + (9 + j)) 0))));
        kind = λ s h. subst Hidden (sym (slot_kind_entry ws l s h)) (λ q. refl);
        in_slot = λ s j h p. subst Hidden (sym (in_slot_entry ws l s j h p))
            (hidden_shown (used_incoming (whole ws) s) (cut_place (get_or in_slot_bits j 0) (get_or ws (1162 + s * 6 + j) 0)) (λ q. never q));
        mark = λ j h. subst Hidden (sym (mark_entry ws l j h)) (λ q. never q);
      }

  pub hidden_at : (i : ℕ) → i < 1236 → Hidden (get_or (table (whole ws)) i nowhere)
  hidden_at i h = by_region HiddenAt regions i h

-- the same as far as they are written, then the same number
number_eq : (e f : Place) → Hidden e → Hidden f → e.is_written ≡ f.is_written → seen e ≡ seen f → e.number ≡ f.number
number_eq e f h k w s = go e.is_written f.is_written refl refl w s
  where
    go : (t u : Bool) → e.is_written ≡ t → f.is_written ≡ u → t ≡ u → pick t e nowhere ≡ pick u f nowhere → e.number ≡ f.number
    go true true p q r x = ap (λ (y : Place). y.number) x
    go true false p q r x = never r
    go false true p q r x = never (sym r)
    go false false p q r x = h p ∙ sym (k q)

pub tables_same : (ws vs : List ℕ) → length ws ≡ 1236 → length vs ≡ 1236 → Named ws 1236 → Named vs 1236 → Free ws vs 1236 → Before ws vs 1236
    → table (whole ws) ≡ table (whole vs)
tables_same ws vs l m n k g b =
    sym (take_all 1236 (table (whole ws)) (omega (arith, table-length ws l)))
    ∙ take_entries ws vs 1236 l m (omega arith)
    (λ (i : ℕ) (h : i < 1236).
    let s : shape (entry_at ws i) ≡ shape (entry_at vs i) =
    next_shape ws vs i l m h (λ t a p u. n t a (omega arith) u) (λ t a p u. k t a (omega arith) u) (λ t a p u. g t a (omega arith) u) (λ (j : ℕ) (p : j < i). b j (omega arith))
    in
    place_eq (entry_at ws i) (entry_at vs i) s
    (number_eq (entry_at ws i) (entry_at vs i) (hidden_at ws l i h) (hidden_at vs m i h) (ap (λ (e : Place). e.is_written) s) (b i h)))
    ∙ take_all 1236 (table (whole vs)) (omega (arith, table-length vs m))
