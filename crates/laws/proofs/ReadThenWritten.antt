-- C-12: a snapshot that was read is the snapshot of the record that it was read as, byte by byte; so bytes that restore to the same record and stores are the same bytes.
-- The argument: the edition and each number have one form only, the numbers read are the record's row (crate snapshot_parts, ReadBack), and the stored bytes are laid where the
-- record's slots have them, with no byte left over (StoredBack).
use Prim.Native.Nat.{ℕ, ◌+◌, ◌<◌}
use mathlib.Core.Path.{◌≡◌, refl, ap, sym, subst, ◌∙◌}
use mathlib.Core.Bool.{Bool, true, false}
use mathlib.Core.List.{List, [], ◌++◌, append_assoc}
use native.Mathlib.Omega.{arith}
use lib.Dec.{eqb}
use lib.ListN.{length, drop, replicate, take-append-drop, length-replicate}
use lib.Seq.{take_all, get_or-drop}
use borrow.Author.Tests.{eqb-true}
use Rattle.numbers.specs.Pick.{pick}
use Rattle.numbers.specs.declared.refusals.Refusal.TheVariants.{OutOfRange, Damaged}
use Rattle.std.specs.Prelude.{Option, Some, None}
use Rattle.sevens.specs.Groups.{written, read, grouped as read_as}
use Rattle.sevens.specs.Form.{Form}
use Rattle.sevens.specs.declared.Grouped.{Grouped}
use Rattle.sevens.proofs.GroupLaws.{written_read}
use Rattle.peer.specs.Damage.{sound}
use Rattle.peer.specs.Gate.{fits}
use Rattle.peer.specs.Outcome.{State, finished, unchanged}
use Rattle.peer.specs.declared.settings.Settings.{Settings}
use Rattle.places.specs.Whole.{whole}
use Rattle.places.proofs.Sized.{sized}
use Rattle.order.specs.Table.{row_of, used_incoming}
use Rattle.snapshot_parts.specs.Row.{grouped, Parsed, parsed, unread, numbers_from}
use Rattle.snapshot_parts.specs.Stored.{stored_total, stored_from, stores}
use Rattle.snapshot_parts.proofs.ReadBack.{Bytes, read_written}
use Rattle.snapshot_parts.proofs.StoredBack.{laid_stored, sound_single}
use Rattle.snapshot.specs.Calls.{snapshot_of, lent_both, complete, with_edition, read_snapshot, state_from, replaced, restores}

-- the stored bytes of a state, and how many the record of these numbers has
abbrev pub stored_of : State → List ℕ
stored_of x = stored_from (used_incoming x.peer) x.store x.second 0 x.peer.incoming

abbrev pub total_of : List ℕ → ℕ
total_of ws = stored_total (used_incoming (whole ws)) 0 (whole ws).incoming

-- ---- a snapshot is its edition, its numbers and its stored bytes
pub snapshot_parts_lem : (x : State) → snapshot_of x ≡ written 1 ++ (grouped (row_of x.peer) ++ stored_of x)
unfolding snapshot_of grouped
snapshot_parts_lem x = append_assoc (written 1) (grouped (row_of x.peer)) (stored_of x)

-- bytes laid into both stores, as many as the record has, are its stored bytes
module _ (ws rest : List ℕ) (s : sound (whole ws) ≡ true) (n : length rest ≡ total_of ws) where
  pub laid_back : stored_of (state_from ws rest) ≡ rest
  laid_back =
      laid_stored (used_incoming (whole ws)) (whole ws).incoming (stores (replicate 49152 0) (replicate 32768 0)) (sized ws).incoming (length-replicate {A = ℕ} 49152 0)
      (length-replicate {A = ℕ} 32768 0) (sound_single (whole ws) s) rest (omega (arith, n))
      ∙ take_all (total_of ws) rest (omega (arith, n))

  pub state_snapshot : snapshot_of (state_from ws rest) ≡ written 1 ++ (grouped (row_of (whole ws)) ++ rest)
  state_snapshot = snapshot_parts_lem (state_from ws rest) ∙ ap (λ (bs : List ℕ). written 1 ++ (grouped (row_of (whole ws)) ++ bs)) laid_back

-- ---- what it says of bytes that they are read
abbrev pub numbers_in : Parsed → List ℕ
numbers_in (parsed ws cs) = ws
numbers_in unread = []

abbrev pub rest_in : Parsed → List ℕ
rest_in (parsed ws cs) = cs
rest_in unread = []

pub record WasRead (bs ws rest : List ℕ) : Type 0 where
  pub end : ℕ
  pub first : read bs ≡ read_as 1 end
  pub numbers : numbers_from 1236 0 (replicate 1236 0) (drop end bs) ≡ parsed ws rest
  pub all : length rest ≡ total_of ws

module _ (ws rest : List ℕ) where
  complete_read : (p : Parsed) → complete p ≡ parsed ws rest → (p ≡ parsed ws rest) × (length rest ≡ total_of ws)
  complete_read unread q = absurd (let u : ◌≡◌ {A = ℕ} 0 1 = cc in omega arith)
  complete_read (parsed vs cs) q = go (eqb (length cs) (total_of vs)) refl q
    where
      go : (t : Bool) → eqb (length cs) (total_of vs) ≡ t → pick t (parsed vs cs) unread ≡ parsed ws rest → (parsed vs cs ≡ parsed ws rest) × (length rest ≡ total_of ws)
      go true e r =
          (r, sym (ap (λ (p : Parsed). length (rest_in p)) r) ∙ eqb-true (length cs) (total_of vs) e ∙ ap (λ (p : Parsed). total_of (numbers_in p)) r)
      go false e r = absurd (let u : ◌≡◌ {A = ℕ} 0 1 = cc in omega arith)

  module _ (bs : List ℕ) where
    abbrev numbers_at : ℕ → Parsed
    numbers_at k = numbers_from 1236 0 (replicate 1236 0) (drop k bs)

    edition_read : (g : Option Grouped) → read bs ≡ g → with_edition bs g ≡ parsed ws rest → WasRead bs ws rest
    edition_read None is q = absurd (let u : ◌≡◌ {A = ℕ} 0 1 = cc in omega arith)
    edition_read (Some g) is q = go (eqb g.value 1) refl q
      where
        go : (t : Bool) → eqb g.value 1 ≡ t → pick t (complete (numbers_at g.groups)) unread ≡ parsed ws rest → WasRead bs ws rest
        go true f r =
            let c = complete_read (numbers_at g.groups) r in
            record { end = g.groups; first = is ∙ ap (λ (n : ℕ). read_as n g.groups) (eqb-true g.value 1 f); numbers = c.0; all = c.1 }
        go false f r = absurd (let u : ◌≡◌ {A = ℕ} 0 1 = cc in omega arith)

    pub was_read : read_snapshot bs ≡ parsed ws rest → WasRead bs ws rest
    unfolding read_snapshot
    was_read q = edition_read (read bs) refl q

-- ---- read, then written
pub read_then_written : (bs ws rest : List ℕ) → Bytes bs → read_snapshot bs ≡ parsed ws rest → sound (whole ws) ≡ true → snapshot_of (state_from ws rest) ≡ bs
read_then_written bs ws rest small q s =
    let r = was_read ws rest bs q in
    let k = r.end in
    let form : Form 5 bs 1 k = written_read 5 bs 1 k small r.first in
    let back = read_written (drop k bs) ws rest (λ m. subst (λ (b : ℕ). b < 256) (sym (get_or-drop k bs m 0)) (small (k + m))) r.numbers in
    state_snapshot ws rest s r.all
    ∙ ap (λ (cs : List ℕ). written 1 ++ cs) (sym back.is)
    ∙ ap (λ (cs : List ℕ). cs ++ drop k bs) (sym form.begins)
    ∙ take-append-drop k bs

-- bytes that are read as the same record and stores are the same bytes
pub same_bytes : (bs cs ws vs rest more : List ℕ) → Bytes bs → Bytes cs → read_snapshot bs ≡ parsed ws rest → read_snapshot cs ≡ parsed vs more
    → sound (whole ws) ≡ true → state_from ws rest ≡ state_from vs more → bs ≡ cs
same_bytes bs cs ws vs rest more small small₂ q r s e =
    let t : sound (whole vs) ≡ true = sym (ap (λ (x : State). sound x.peer) e) ∙ s in
    sym (read_then_written bs ws rest small q s) ∙ ap snapshot_of e ∙ read_then_written cs vs more small₂ r t

-- ---- by the call: where restore is done (0), its bytes are the snapshot of what it left
module _ (bs : List ℕ) (small : Bytes bs) (y : State) where
  sound_written : (ws rest : List ℕ) → read_snapshot bs ≡ parsed ws rest → (t : Bool) → sound (whole ws) ≡ t
      → (pick t (finished (state_from ws rest)) (unchanged Damaged y)).answer.number ≡ 0 → snapshot_of (pick t (finished (state_from ws rest)) (unchanged Damaged y)).after ≡ bs
  sound_written ws rest q true e d = read_then_written bs ws rest small q e
  sound_written ws rest q false e d = absurd (omega arith)

  replaced_written : (p : Parsed) → read_snapshot bs ≡ p → (replaced p y).answer.number ≡ 0 → snapshot_of (replaced p y).after ≡ bs
  replaced_written (parsed ws rest) q d = sound_written ws rest q (sound (whole ws)) refl d
  replaced_written unread q d = absurd (omega arith)

  pub restored_written : (s : Settings) → (restores s bs y).answer.number ≡ 0 → snapshot_of (restores s bs y).after ≡ bs
  restored_written s d = go (fits s (lent_both y)) d
    where
      go : (t : Bool) → (pick t (replaced (read_snapshot bs) y) (unchanged OutOfRange y)).answer.number ≡ 0
          → snapshot_of (pick t (replaced (read_snapshot bs) y) (unchanged OutOfRange y)).after ≡ bs
      go true d = replaced_written (read_snapshot bs) refl d
      go false d = absurd (omega arith)

-- so bytes that restore to the same state are the same bytes, whatever was there before
pub restored_once : (s s₂ : Settings) (bs cs : List ℕ) (y y₂ : State) → Bytes bs → Bytes cs → (restores s bs y).answer.number ≡ 0 → (restores s₂ cs y₂).answer.number ≡ 0
    → (restores s bs y).after ≡ (restores s₂ cs y₂).after → bs ≡ cs
restored_once s s₂ bs cs y y₂ small small₂ d d₂ e =
    sym (restored_written bs small y s d) ∙ ap snapshot_of e ∙ restored_written cs small₂ y₂ s₂ d₂
