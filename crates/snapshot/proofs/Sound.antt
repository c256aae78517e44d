-- Soundness through restore: done, the record is sound and whole, whatever was there before; a sound one stays so, whatever the answer.
-- The argument: only a record that was seen to be sound replaces the old one, and any numbers are a whole record; a refusal leaves what it found.
use Prim.Native.Nat.{ℕ}
use mathlib.Core.Path.{◌≡◌, refl}
use mathlib.Core.Bool.{Bool, true, false}
use mathlib.Core.List.{List}
use Rattle.numbers.specs.Pick.{pick}
use Rattle.numbers.specs.declared.refusals.Refusal.TheVariants.{OutOfRange, Damaged, Unreadable}
use Rattle.numbers.proofs.Settled.{refused_not_done}
use Rattle.peer.specs.Damage.{sound}
use Rattle.peer.specs.Gate.{fits}
use Rattle.peer.specs.Outcome.{State, Outcome, unchanged, finished, on_peer}
use Rattle.peer.specs.Sounds.{Whole, Sounds}
use Rattle.peer.specs.declared.settings.Settings.{Settings}
use Rattle.peer.specs.declared.Peer.{Peer}
use Rattle.places.specs.Whole.{whole}
use Rattle.places.proofs.Sized.{sized}
use Rattle.snapshot_parts.specs.Row.{Parsed, parsed, unread}
use Rattle.snapshot.specs.Calls.{lent_both, read_snapshot, state_from, replaced, restores}

-- ---- one state: what a property of outcomes asks, by the cases of the rule
module _ (s : Settings) (bytes : List ℕ) (x : State) (P : Outcome State → Type 0) where
  -- a property that each refusal has, and each record that is sound with what stands in the stores
  pub restore_has : P (unchanged OutOfRange x) → P (unchanged Unreadable x) → P (unchanged Damaged x)
      → ((ws bs : List ℕ) → sound (whole ws) ≡ true → P (finished (state_from ws bs))) → P (restores s bytes x)
  restore_has range unreadable damaged new = asked (fits s (lent_both x)) (read_snapshot bytes)
    where
      judged : (ws bs : List ℕ) (b : Bool) → sound (whole ws) ≡ b → P (pick b (finished (state_from ws bs)) (unchanged Damaged x))
      judged ws bs true e = new ws bs e
      judged ws bs false e = damaged

      asked : (b : Bool) (p : Parsed) → P (pick b (replaced p x) (unchanged OutOfRange x))
      asked false p = range
      asked true unread = unreadable
      asked true (parsed ws bs) = judged ws bs (sound (whole ws)) refl

-- ---- the call, for stores that stand
module _ (s : Settings) (bytes store second : List ℕ) where
  abbrev on : Peer → State
  on p = record { peer = p; store = store; second = second }

  -- done, of any record
  pub restore_done_sound : (p : Peer) → (restores s bytes (on p)).answer.number ≡ 0 → sound (restores s bytes (on p)).after.peer ≡ true
  restore_done_sound p =
      restore_has s bytes (on p) (λ (o : Outcome State). o.answer.number ≡ 0 → sound o.after.peer ≡ true)
      (λ n. absurd (refused_not_done OutOfRange n)) (λ n. absurd (refused_not_done Unreadable n)) (λ n. absurd (refused_not_done Damaged n)) (λ ws bs good n. good)

  pub restore_done_whole : (p : Peer) → (restores s bytes (on p)).answer.number ≡ 0 → Whole (restores s bytes (on p)).after.peer
  restore_done_whole p =
      restore_has s bytes (on p) (λ (o : Outcome State). o.answer.number ≡ 0 → Whole o.after.peer)
      (λ n. absurd (refused_not_done OutOfRange n)) (λ n. absurd (refused_not_done Unreadable n)) (λ n. absurd (refused_not_done Damaged n)) (λ ws bs good n. sized ws)

  pub restore_sounds : Sounds (λ (p : Peer). on_peer (restores s bytes (on p)))
  restore_sounds =
      record {
        done = λ p l n. restore_done_sound p n;
        keeps = λ p l good. restore_has s bytes (on p) (λ (o : Outcome State). sound o.after.peer ≡ true) good good good (λ ws bs new. new);
        whole = λ p l. restore_has s bytes (on p) (λ (o : Outcome State). Whole o.after.peer) l l l (λ ws bs new. sized ws);
      }
