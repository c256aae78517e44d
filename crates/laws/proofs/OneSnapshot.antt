-- C-12: one record, one snapshot: records that are the same, with the same stored bytes, have the same snapshot; and back, two sound records with one snapshot are the same and
-- have the same stored bytes.
-- The argument: a snapshot is made of the row and the stored bytes; the same records have one row. Back: what is read of the
-- same bytes is the same, and each record is the same as what is read of its snapshot.
use Prim.Native.Nat.{ℕ, ◌<◌}
use mathlib.Core.Path.{◌≡◌, ap, sym, ◌∙◌}
use mathlib.Core.Bool.{true}
use mathlib.Core.List.{List, ◌++◌}
use lib.ListN.{length, get_or}
use Rattle.sevens.specs.Groups.{written}
use Rattle.record.specs.Fresh.{no_incoming}
use Rattle.peer.specs.Damage.{sound}
use Rattle.peer.specs.Outcome.{State}
use Rattle.places.specs.Whole.{whole}
use Rattle.order.specs.Table.{row_of, used_incoming}
use Rattle.snapshot_parts.specs.Row.{grouped, Parsed, parsed}
use Rattle.snapshot_parts.specs.Stored.{stored_bytes}
use Rattle.snapshot.specs.Calls.{snapshot_of, read_snapshot}
use Rattle.laws.specs.Same.{Same, view}
use Rattle.laws.proofs.Tables.{same_row}
use Rattle.laws.proofs.StoredSame.{each_same}
use Rattle.laws.proofs.ReadThenWritten.{stored_of, numbers_in, rest_in, snapshot_parts_lem}
use Rattle.laws.proofs.ThereAndBack.{read_of_lem, read_whole}

abbrev pub state_of : List ℕ → List ℕ → List ℕ → State
state_of ws a b = record { peer = whole ws; store = a; second = b }

module _ (ws vs : List ℕ) (l : length ws ≡ 1236) (m : length vs ≡ 1236) (a b c d : List ℕ) (e : Same (whole ws) (whole vs)) where
  pub one_snapshot : stored_of (state_of ws a b) ≡ stored_of (state_of vs c d) → snapshot_of (state_of ws a b) ≡ snapshot_of (state_of vs c d)
  one_snapshot q =
      snapshot_parts_lem (state_of ws a b)
      ∙ ap (λ (r : List ℕ). written 1 ++ (grouped r ++ stored_of (state_of ws a b))) (same_row ws vs l m e)
      ∙ ap (λ (bs : List ℕ). written 1 ++ (grouped (row_of (whole vs)) ++ bs)) q
      ∙ sym (snapshot_parts_lem (state_of vs c d))

  -- by the bytes of each used slot
  pub one_snapshot_each : ((s : ℕ) → used_incoming (whole ws) s ≡ true
      → stored_bytes a b s (get_or (whole ws).incoming s no_incoming) ≡ stored_bytes c d s (get_or (whole vs).incoming s no_incoming))
      → snapshot_of (state_of ws a b) ≡ snapshot_of (state_of vs c d)
  one_snapshot_each h = one_snapshot (each_same ws vs e a b c d h)

-- ---- and back: of sound records, whose numbers have 32 bits each
pub record OneRecord (ws vs a b c d : List ℕ) : Type 0 where
  pub same : Same (whole ws) (whole vs)
  pub stored : stored_of (state_of ws a b) ≡ stored_of (state_of vs c d)

pub one_record : (ws vs : List ℕ) → length ws ≡ 1236 → length vs ≡ 1236 → sound (whole ws) ≡ true → sound (whole vs) ≡ true
    → ((k : ℕ) → get_or ws k 0 < 4294967296) → ((k : ℕ) → get_or vs k 0 < 4294967296)
    → (a b c d : List ℕ) → length a ≡ 49152 → length b ≡ 32768 → length c ≡ 49152 → length d ≡ 32768
    → snapshot_of (state_of ws a b) ≡ snapshot_of (state_of vs c d) → OneRecord ws vs a b c d
one_record ws vs l m s t f g a b c d h i j k e =
    let r = read_of_lem ws l s f (stored_of (state_of ws a b)) in
    let w = read_of_lem vs m t g (stored_of (state_of vs c d)) in
    let q : parsed r.numbers (stored_of (state_of ws a b)) ≡ parsed w.numbers (stored_of (state_of vs c d)) =
    sym (read_whole ws l s f a b h i) ∙ ap read_snapshot e ∙ read_whole vs m t g c d j k
    in
    record {
      same = sym r.same ∙ ap (λ (p : Parsed). view (whole (numbers_in p))) q ∙ w.same;
      stored = ap rest_in q;
    }
