-- C-12: the snapshot of a sound record is restored: the same record, the same stored bytes, the same snapshot.
-- The argument: of the groups of the record's row numbers are read whose table is the record's as far as it is written (crate snapshot_parts, WriteBack), so the record is the same,
-- and it is as sound; it has the same used slots with the same lengths, so the bytes behind the numbers are just its stored bytes, and they are laid where they were.
use Prim.Native.Nat.{ℕ, ◌+◌, ◌≤◌, ◌<◌}
use mathlib.Core.Path.{◌≡◌, refl, ap, sym, subst, ◌∙◌}
use mathlib.Core.Bool.{Bool, true}
use mathlib.Core.List.{List, [], ◌∷◌, ◌++◌}
use native.Mathlib.Nat.{zero-add}
use native.Mathlib.Omega.{arith}
use lib.Dec.{eqb}
use lib.ListN.{length, get_or, take, drop, replicate, length-replicate, get_or-eq_default}
use lib.Seq.{sets, sets-eq, length-sets, take_at, drop-append_seam}
use borrow.Author.Tests.{eq-eqb, le-leb}
use Rattle.numbers.specs.Pick.{pick, both}
use Rattle.numbers.specs.Answers.{done}
use Rattle.numbers.specs.declared.refusals.Refusal.TheVariants.{OutOfRange, NoRoom, Damaged}
use Rattle.numbers.proofs.BoolLaws.{both_true}
use Rattle.sevens.specs.Groups.{written}
use Rattle.sevens.proofs.GroupLaws.{read_back}
use Rattle.record.specs.Fresh.{no_incoming}
use Rattle.peer.specs.Damage.{sound}
use Rattle.peer.specs.Gate.{fits, gate_of, behind}
use Rattle.peer.specs.Settings.{fit_settings}
use Rattle.peer.specs.Outcome.{State, Outcome, finished, unchanged}
use Rattle.peer.specs.declared.settings.Settings.{Settings}
use Rattle.places.specs.Whole.{whole}
use Rattle.places.proofs.Sized.{sized}
use Rattle.order.specs.Table.{row_of, used_incoming}
use Rattle.order.proofs.EntryLaws.{below_or}
use Rattle.order.proofs.Determined.{sound_named, before_seen}
use Rattle.snapshot_parts.specs.Row.{grouped, Parsed, parsed, unread, numbers_from}
use Rattle.snapshot_parts.specs.Stored.{stored_bytes, stored_from, stores}
use Rattle.snapshot_parts.proofs.WriteBack.{Back, written_read}
use Rattle.snapshot_parts.proofs.StoredBack.{stored_length_lem, laid_store_length, laid_second_length, each_slot}
use Rattle.snapshot.specs.Calls.{snapshot_of, lent_both, written_into, writes_snapshot, complete, with_edition, read_snapshot, state_from, replaced, restores}
use Rattle.laws.specs.Same.{Same}
use Rattle.laws.proofs.SameViews.{same_sound}
use Rattle.laws.proofs.Snapshots.{seen_same}
use Rattle.laws.proofs.Tables.{same_row}
use Rattle.laws.proofs.StoredSame.{same_used, same_slot, same_stored, same_total}
use Rattle.laws.proofs.ReadThenWritten.{stored_of, total_of, snapshot_parts_lem, laid_back, state_snapshot}

-- ---- behind the edition
pub edition_there : (cs : List ℕ) → read_snapshot (written 1 ++ cs) ≡ complete (numbers_from 1236 0 (replicate 1236 0) cs)
unfolding read_snapshot
edition_there cs =
    ap (with_edition (written 1 ++ cs)) (read_back 1 cs (omega arith))
    ∙ ap (λ (ds : List ℕ). complete (numbers_from 1236 0 (replicate 1236 0) ds)) (drop-append_seam (written 1) cs)

-- ---- what is read of a record's snapshot, with any bytes in place of its stored bytes: they are all of them, or it is not read
pub record ReadOf (ws rest : List ℕ) : Type 0 where
  pub numbers : List ℕ
  pub is : read_snapshot (written 1 ++ (grouped (row_of (whole ws)) ++ rest)) ≡ pick (eqb (length rest) (total_of ws)) (parsed numbers rest) unread
  pub long : length numbers ≡ 1236
  pub same : Same (whole numbers) (whole ws)

-- that each number has 32 bits is a premise, as every u32 has
module _ (ws : List ℕ) (l : length ws ≡ 1236) (e : sound (whole ws) ≡ true) (small : (k : ℕ) → get_or ws k 0 < 4294967296) where
  pub read_of_lem : (rest : List ℕ) → ReadOf ws rest
  read_of_lem rest =
      let b : Back ws rest = written_read ws l e small rest in
      let vs = b.numbers in
      let s : Same (whole vs) (whole ws) = seen_same vs ws b.long l b.named (sound_named ws e 1236) (before_seen vs ws 1236 (ap (take 1236) b.same)) in
      record {
        numbers = vs;
        is =
            edition_there (grouped (row_of (whole ws)) ++ rest)
            ∙ ap complete b.is
            ∙ ap (λ (n : ℕ). pick (eqb (length rest) n) (parsed vs rest) unread) (same_total vs ws s);
        long = b.long;
        same = s;
      }

-- ---- restored
pub record Restores (s : Settings) (x y : State) : Type 0 where
  pub after : State
  pub is : restores s (snapshot_of x) y ≡ finished after
  pub same : Same after.peer x.peer
  pub good : sound after.peer ≡ true
  pub snapshot : snapshot_of after ≡ snapshot_of x
  pub bytes : (j : ℕ) → used_incoming x.peer j ≡ true
      → stored_bytes after.store after.second j (get_or after.peer.incoming j no_incoming) ≡ stored_bytes x.store x.second j (get_or x.peer.incoming j no_incoming)
  pub store : length after.store ≡ 49152
  pub second : length after.second ≡ 32768

-- a slot that does not exist has no bytes
no_bytes : (a b c d : List ℕ) (j : ℕ) → stored_bytes a b j no_incoming ≡ stored_bytes c d j no_incoming
unfolding no_incoming
no_bytes a b c d j = refl

module _ (ws : List ℕ) (l : length ws ≡ 1236) (e : sound (whole ws) ≡ true) (small : (k : ℕ) → get_or ws k 0 < 4294967296)
    (a b : List ℕ) (m : length a ≡ 49152) (n : length b ≡ 32768) where
  abbrev pub x : State
  x = record { peer = whole ws; store = a; second = b }

  pub all_stored : length (stored_of x) ≡ total_of ws
  all_stored = stored_length_lem (used_incoming (whole ws)) a b 0 (whole ws).incoming (omega (arith, m, (sized ws).incoming)) (omega (arith, n))

  abbrev pub was : ReadOf ws (stored_of x)
  was = read_of_lem ws l e small (stored_of x)

  abbrev pub vs : List ℕ
  vs = was.numbers

  pub read_whole : read_snapshot (snapshot_of x) ≡ parsed vs (stored_of x)
  read_whole =
      ap read_snapshot (snapshot_parts_lem x)
      ∙ was.is
      ∙ ap (λ (t : Bool). pick t (parsed vs (stored_of x)) unread) (eq-eqb (length (stored_of x)) (total_of ws) all_stored)

  sound_again : sound (whole vs) ≡ true
  sound_again = same_sound (whole vs) (whole ws) was.same ∙ e

  all_again : length (stored_of x) ≡ total_of vs
  all_again = all_stored ∙ sym (same_total vs ws was.same)

  abbrev z : State
  z = state_from vs (stored_of x)

  store_again : length z.store ≡ 49152
  store_again =
      laid_store_length (used_incoming (whole vs)) 0 (whole vs).incoming (stored_of x) (stores (replicate 49152 0) (replicate 32768 0)) ∙ length-replicate {A = ℕ} 49152 0

  second_again : length z.second ≡ 32768
  second_again =
      laid_second_length (used_incoming (whole vs)) 0 (whole vs).incoming (stored_of x) (stores (replicate 49152 0) (replicate 32768 0)) ∙ length-replicate {A = ℕ} 32768 0

  snapshot_again : snapshot_of z ≡ snapshot_of x
  snapshot_again =
      state_snapshot vs (stored_of x) sound_again all_again
      ∙ ap (λ (r : List ℕ). written 1 ++ (grouped r ++ stored_of x)) (same_row vs ws was.long l was.same)
      ∙ sym (snapshot_parts_lem x)

  -- the stored bytes of all used slots, then of each
  stored_again : stored_from (used_incoming (whole vs)) z.store z.second 0 (whole vs).incoming ≡ stored_from (used_incoming (whole vs)) a b 0 (whole vs).incoming
  stored_again = laid_back vs (stored_of x) sound_again all_again ∙ sym (same_stored vs ws was.same a b)

  bytes_again : (j : ℕ) → used_incoming (whole ws) j ≡ true
      → stored_bytes z.store z.second j (get_or (whole vs).incoming j no_incoming) ≡ stored_bytes a b j (get_or (whole ws).incoming j no_incoming)
  bytes_again j u =
      let v : used_incoming (whole vs) j ≡ true = same_used vs ws was.same j ∙ u in
      below_or j 12
      (λ (h : j < 12).
      subst (λ (k : ℕ). stored_bytes z.store z.second k (get_or (whole vs).incoming j no_incoming) ≡ stored_bytes a b k (get_or (whole vs).incoming j no_incoming)) (zero-add j)
      (each_slot (used_incoming (whole vs)) z.store z.second a b (omega (arith, second_again)) (omega (arith, n)) 0 (whole vs).incoming
      (omega (arith, store_again, (sized vs).incoming)) (omega (arith, m, (sized vs).incoming)) stored_again j (omega (arith, h, (sized vs).incoming))
      (ap (used_incoming (whole vs)) (zero-add j) ∙ v)))
      (λ (h : 12 ≤ j).
      let d = get_or-eq_default (whole vs).incoming no_incoming {n = j} (omega (arith, h, (sized vs).incoming)) in
      ap (stored_bytes z.store z.second j) d ∙ no_bytes z.store z.second a b j ∙ sym (ap (stored_bytes a b j) d))
      ∙ ap (stored_bytes a b j) (same_slot vs ws was.same j v)

  -- settings that fit and a state with stores of their lengths
  module _ (s : Settings) (f : fit_settings s ≡ true) (y : State) (g : length y.store ≡ 49152) (h : length y.second ≡ 32768) where
    fit : fits s (lent_both y) ≡ true
    fit =
        both_true (fit_settings s) (both (eqb (length y.store) 49152) (eqb (length y.second) 32768)) f
        (both_true (eqb (length y.store) 49152) (eqb (length y.second) 32768) (eq-eqb (length y.store) 49152 g) (eq-eqb (length y.second) 32768 h))

    pub there_and_back : Restores s x y
    there_and_back =
        record {
          after = z;
          is =
              ap (λ (t : Bool). pick t (replaced (read_snapshot (snapshot_of x)) y) (unchanged OutOfRange y)) fit
              ∙ ap (λ (p : Parsed). replaced p y) read_whole
              ∙ ap (λ (t : Bool). pick t (finished z) (unchanged Damaged y)) sound_again;
          same = was.same;
          good = sound_again;
          snapshot = snapshot_again;
          bytes = bytes_again;
          store = store_again;
          second = second_again;
        }

-- ---- by the call that writes: a buffer with room begins with the snapshot then, and the answer says where it ends
pub record Writes (s : Settings) (x : State) (buffer : List ℕ) : Type 0 where
  pub answer : (writes_snapshot s 1 x buffer).answer ≡ done (length (snapshot_of x) ∷ [])
  pub begins : take (length (snapshot_of x)) (writes_snapshot s 1 x buffer).after ≡ snapshot_of x
  pub long : length (writes_snapshot s 1 x buffer).after ≡ length buffer

set_begins : (bs buffer : List ℕ) → length bs ≤ length buffer → take (length bs) (sets buffer 0 bs) ≡ bs
set_begins bs buffer h = ap (take (length bs)) (sets-eq bs buffer 0 (omega arith)) ∙ take_at bs (drop (0 + length bs) buffer) (length bs) refl

pub writes : (s : Settings) (x : State) (buffer : List ℕ) → fits s (lent_both x) ≡ true → sound x.peer ≡ true → length (snapshot_of x) ≤ length buffer → Writes s x buffer
writes s x buffer f g h =
    let bs = snapshot_of x in
    let made : Outcome (List ℕ) = record { answer = done (length bs ∷ []); after = sets buffer 0 bs } in
    let is : writes_snapshot s 1 x buffer ≡ made =
    ap (λ (t : Bool). behind (gate_of t (sound x.peer)) buffer (written_into bs buffer)) f
    ∙ ap (λ (t : Bool). behind (gate_of true t) buffer (written_into bs buffer)) g
    ∙ ap (λ (t : Bool). pick t made (unchanged NoRoom buffer)) (le-leb (length bs) (length buffer) h)
    in
    record {
      answer = ap (λ (o : Outcome (List ℕ)). o.answer) is;
      begins = ap (λ (o : Outcome (List ℕ)). take (length bs) o.after) is ∙ set_begins bs buffer h;
      long = ap (λ (o : Outcome (List ℕ)). length o.after) is ∙ length-sets buffer 0 bs;
    }
