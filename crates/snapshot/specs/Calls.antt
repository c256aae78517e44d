-- C-12: a snapshot of the record and its stores, written and restored.
use Rattle.std.specs.Prelude.{ℕ, List, [], ◌∷◌, ◌++◌, leb, eqb, length, drop, replicate, Option, Some, None, Result, Ok, Err}
use Rattle.std.proofs.lemmas.List.Edits.{sets}
use Rattle.numbers.specs.Pick.{pick}
use Rattle.numbers.specs.Answers.{Answer, done, refused}
use Rattle.numbers.specs.declared.refusals.Refusal.{Refusal}
use Rattle.numbers.specs.declared.refusals.Refusal.TheVariants.{OutOfRange, NoRoom, Damaged, Unreadable}
use Rattle.sevens.specs.Groups.{read}
use Rattle.sevens.specs.declared.Grouped.{Grouped}
use Rattle.record.specs.Sizes.{store_length, second_length}
use Rattle.peer.specs.Damage.{sound}
use Rattle.peer.specs.Gate.{fits, gated}
use Rattle.peer.specs.Outcome.{State, Outcome, unchanged, finished}
use Rattle.peer.specs.declared.settings.Settings.{Settings}
use Rattle.peer.specs.declared.gate.Lent.{Lent}
use Rattle.peer.specs.declared.gate.Lent.TheVariants.{Both}
use Rattle.places.specs.Whole.{whole, record_length}
use Rattle.order.specs.Table.{row_of, used_incoming}
use Rattle.snapshot_parts.specs.Row.{grouped, Parsed, parsed, unread, numbers_from}
use Rattle.snapshot_parts.specs.Stored.{stored_total, stored_from, stores, laid_from}

-- "First the edition number 1"
abbrev pub edition : ℕ
edition = 1

-- "then the record in document 01's order, .., then stored bytes slot by slot"
unfoldable pub snapshot_of : State → List ℕ
snapshot_of x =
    grouped (edition ∷ row_of x.peer)
    ++ stored_from (used_incoming x.peer) x.store x.second 0 x.peer.incoming

-- both stores are lent
abbrev pub lent_both : State → Lent
lent_both x = Both (length x.store) (length x.second)

-- ---- writing: "settings and both stores (11), 13, an edition that is not there (15), 12", no room
abbrev pub written_into : List ℕ → List ℕ → Outcome (List ℕ)
written_into bytes buffer =
    pick (leb (length bytes) (length buffer))
    (record { answer = done (length bytes ∷ []); after = sets buffer 0 bytes })
    (unchanged NoRoom buffer)

abbrev pub writes_snapshot : Settings → ℕ → State → List ℕ → Outcome (List ℕ)
writes_snapshot s e x buffer =
    gated s (lent_both x) x.peer buffer
    (pick (eqb e edition) (written_into (snapshot_of x) buffer) (unchanged Unreadable buffer))

abbrev pub answer_of : Result ℕ Refusal → Answer
answer_of (Ok length) = done (length ∷ [])
answer_of (Err why) = refused why

-- ---- restoring: "settings and both stores (11), then 15, then 13"

-- "bytes short or left over": behind the numbers stand just the stored bytes
abbrev pub complete : Parsed → Parsed
complete (parsed ws bs) =
    pick (eqb (length bs) (stored_total (used_incoming (whole ws)) 0 (whole ws).incoming)) (parsed ws bs) unread
complete unread = unread

-- "or unknown edition"; "what is not written is as made new"
abbrev pub with_edition : List ℕ → Option Grouped → Parsed
with_edition bs (Some g) =
    pick (eqb g.value edition) (complete (numbers_from record_length 0 (replicate record_length 0) (drop g.groups bs))) unread
with_edition bs None = unread

-- the numbers of a snapshot and its stored bytes; or it cannot be read
unfoldable pub read_snapshot : List ℕ → Parsed
read_snapshot bs = with_edition bs (read bs)

-- "it replaces the whole record, both stores hold what was written and 0 elsewhere"
abbrev pub state_from : List ℕ → List ℕ → State
state_from ws bs =
    let p = whole ws in
    let y = laid_from (used_incoming p) 0 p.incoming bs (stores (replicate store_length 0) (replicate second_length 0)) in
    record { peer = p; store = y.store; second = y.second }

-- "then 13 if what was read is damaged"; "Nothing lent changes"
abbrev pub replaced : Parsed → State → Outcome State
replaced (parsed ws bs) x = pick (sound (whole ws)) (finished (state_from ws bs)) (unchanged Damaged x)
replaced unread x = unchanged Unreadable x

-- "Restore asks nothing of the record that it replaces, as reset."
abbrev pub restores : Settings → List ℕ → State → Outcome State
restores s bs x = pick (fits s (lent_both x)) (replaced (read_snapshot bs) x) (unchanged OutOfRange x)
