-- What `begin`, `parse`, `replace` and `restore` lean on: the reader's steps, the edition, the numbers, the stored bytes, are the rule's own.
-- The argument: each step is a case of the rule; a snapshot that is read has as many stored bytes as its record says, so that they lie inside the bytes.
use Prim.Native.Nat.{ℕ, ◌+◌, ◌-◌, ◌≤◌}
use mathlib.Core.Path.{◌≡◌, refl, ap, sym, ◌∙◌}
use mathlib.Core.Bool.{Bool, true, false}
use mathlib.Core.List.{List}
use native.Mathlib.Omega.{arith}
use lib.Dec.{eqb}
use lib.ListN.{length, drop, replicate, length-drop}
use borrow.Author.Tests.{eqb-true, eq-eqb, ne_eqb}
use Rattle.std.specs.Prelude.{Option, Some, None}
use Rattle.numbers.specs.Pick.{pick}
use Rattle.sevens.specs.Groups.{read, groups_of}
use Rattle.sevens.specs.declared.Grouped.{Grouped}
use Rattle.sevens.proofs.Reading.{number_there}
use Rattle.peer.specs.Outcome.{State}
use Rattle.places.specs.Whole.{whole}
use Rattle.order.specs.Table.{used_incoming}
use Rattle.snapshot_parts.specs.Row.{Parsed, parsed, unread, numbers_from}
use Rattle.snapshot_parts.specs.Stored.{stored_total, Stores, stores, laid_from}
use Rattle.snapshot.specs.Calls.{complete, with_edition, read_snapshot, state_from}
use Rattle.snapshot.specs.CodeEdition.{begun}

-- the stored bytes of the record that numbers are
abbrev total_of : List ℕ → ℕ
total_of ws = stored_total (used_incoming (whole ws)) 0 (whole ws).incoming

-- ---- the edition
-- its groups lie inside the bytes
pub begin_inside : (bs : List ℕ) (g : Grouped) → Some g ≡ read bs → g.groups ≤ length bs
begin_inside bs g r = rw (← ap groups_of (sym r)) (number_there 5 bs)

-- ---- the whole reader
module _ (bs : List ℕ) where
  abbrev numbers_at : ℕ → Parsed
  numbers_at at = numbers_from 1236 0 (replicate 1236 0) (drop at bs)

  -- what comes of the edition
  abbrev onward : Option ℕ → Parsed
  onward (Some at) = complete (numbers_at at)
  onward None = unread

  edition_cases : (g : Option Grouped) → onward (begun g) ≡ with_edition bs g
  edition_cases None = refl
  edition_cases (Some g) = go (eqb g.value 1)
    where
      go : (t : Bool) → onward (pick t (Some g.groups) None) ≡ pick t (complete (numbers_at g.groups)) unread
      go true = refl
      go false = refl

  onward_is : (r : Option ℕ) → r ≡ begun (read bs) → onward r ≡ read_snapshot bs
  unfolding read_snapshot
  onward_is r is = ap onward is ∙ edition_cases (read bs)

  pub edition_none : None ≡ begun (read bs) → unread ≡ read_snapshot bs
  edition_none is = onward_is None is

  module _ (at : ℕ) (here : Some at ≡ begun (read bs)) where
    numbers_are : (p : Parsed) → p ≡ numbers_at at → complete p ≡ read_snapshot bs
    numbers_are p numbers = ap complete numbers ∙ onward_is (Some at) here

    pub numbers_none : unread ≡ numbers_at at → unread ≡ read_snapshot bs
    numbers_none numbers = numbers_are unread numbers

    module _ (ws : List ℕ) (end : ℕ) (numbers : parsed ws (drop end bs) ≡ numbers_at at) where
      abbrev ended : Bool → Parsed
      ended t = pick t (parsed ws (drop end bs)) unread

      ended_is : ended (eqb (length (drop end bs)) (total_of ws)) ≡ read_snapshot bs
      ended_is = numbers_are (parsed ws (drop end bs)) numbers

      pub bytes_other : (length bs - end ≡ total_of ws → ⊥) → unread ≡ read_snapshot bs
      bytes_other h = sym (ap ended (ne_eqb (length (drop end bs)) (total_of ws) (λ e. h (sym (length-drop end bs) ∙ e)))) ∙ ended_is

      pub bytes_all : length bs - end ≡ total_of ws → parsed ws (drop end bs) ≡ read_snapshot bs
      bytes_all h = sym (ap ended (eq-eqb (length (drop end bs)) (total_of ws) (length-drop end bs ∙ h))) ∙ ended_is

-- ---- a snapshot that is read has all its stored bytes
-- tells what is read from what is not
abbrev readness : Parsed → ℕ
readness (parsed ws cs) = 1
readness unread = 0

abbrev numbers_in : Parsed → List ℕ
numbers_in (parsed ws cs) = ws
numbers_in unread = replicate 0 0

abbrev rest_in : Parsed → List ℕ
rest_in (parsed ws cs) = cs
rest_in unread = replicate 0 0

complete_all : (p : Parsed) → readness (complete p) ≡ 1 → length (rest_in (complete p)) ≡ total_of (numbers_in (complete p))
complete_all unread h = absurd (omega arith)
complete_all (parsed ws cs) h = go (eqb (length cs) (total_of ws)) refl h
  where
    go : (t : Bool) → eqb (length cs) (total_of ws) ≡ t → readness (pick t (parsed ws cs) unread) ≡ 1
        → length (rest_in (pick t (parsed ws cs) unread)) ≡ total_of (numbers_in (pick t (parsed ws cs) unread))
    go true e r = eqb-true (length cs) (total_of ws) e
    go false e r = absurd (omega arith)

edition_all : (bs : List ℕ) (g : Option Grouped) → readness (with_edition bs g) ≡ 1 → length (rest_in (with_edition bs g)) ≡ total_of (numbers_in (with_edition bs g))
edition_all bs None h = absurd (omega arith)
edition_all bs (Some g) h = go (eqb g.value 1) h
  where
    go : (t : Bool) → readness (pick t (complete (numbers_at bs g.groups)) unread) ≡ 1
        → length (rest_in (pick t (complete (numbers_at bs g.groups)) unread)) ≡ total_of (numbers_in (pick t (complete (numbers_at bs g.groups)) unread))
    go true r = complete_all (numbers_at bs g.groups) r
    go false r = absurd (omega arith)

snapshot_all : (bs : List ℕ) → readness (read_snapshot bs) ≡ 1 → length (rest_in (read_snapshot bs)) ≡ total_of (numbers_in (read_snapshot bs))
unfolding read_snapshot
snapshot_all bs h = edition_all bs (read bs) h

-- so they lie inside the bytes
pub bytes_inside : (bs ws : List ℕ) (end : ℕ) → end ≤ length bs → parsed ws (drop end bs) ≡ read_snapshot bs → end + total_of ws ≤ length bs
bytes_inside bs ws end h is =
    let all = snapshot_all bs (sym (ap readness is)) in
    let same : length (drop end bs) ≡ total_of ws = ap (λ (p : Parsed). length (rest_in p)) is ∙ all ∙ sym (ap (λ (p : Parsed). total_of (numbers_in p)) is) in
    omega (arith, same, length-drop end bs)

-- ---- the record replaced, and both stores
module _ (vs cs store second zeros zeros₂ : List ℕ) (n m : ℕ) (l : n ≡ 49152) (k : m ≡ 32768)
    (cleared : zeros ≡ replicate n 0) (cleared₂ : zeros₂ ≡ replicate m 0)
    (laid : stores store second ≡ laid_from (used_incoming (whole vs)) 0 (whole vs).incoming cs (stores zeros zeros₂)) where
  abbrev with : Stores → State
  with y = record { peer = whole vs; store = y.store; second = y.second }

  both_cleared : stores zeros zeros₂ ≡ stores (replicate 49152 0) (replicate 32768 0)
  both_cleared =
      ap (λ (z : List ℕ). stores z zeros₂) (cleared ∙ ap (λ (i : ℕ). replicate i 0) l)
      ∙ ap (stores (replicate 49152 0)) (cleared₂ ∙ ap (λ (i : ℕ). replicate i 0) k)

  pub replace_is : with (stores store second) ≡ state_from vs cs
  replace_is = ap with (laid ∙ ap (laid_from (used_incoming (whole vs)) 0 (whole vs).incoming cs) both_cleared)
