-- Reliable repeats leave no trace: inserting reliable arrivals whose number was taken by what joined dispatched on that channel since begin, at most 32,768 numbers
-- ago, changes no answer, no packet and no record. C-11: nor does inserting pieces that are marked, or whose block's start was so taken.
use Rattle.std.specs.Prelude.{ℕ, ◌≤◌, ◌≡◌, true, List, [], ◌∷◌, ◌++◌, length, None, Option, Some}
use Rattle.record.specs.Marks.{piece_marked}
use Rattle.peer.specs.Outcome.{State}
use Rattle.peer.specs.declared.settings.Settings.{Settings}
use Rattle.peer.specs.declared.defaults.Kept.{Kept}
use Rattle.peer.specs.declared.Peer.{Peer}
use Rattle.arrival.specs.declared.Arrival.{Arrival}
use Rattle.arrive_fragment.specs.Pieces.{unfinished_on}
use Rattle.arrive_fragment.specs.declared.Piece.{Piece}
use Rattle.link_in.specs.declared.calls.Call.TheVariants as inw
use Rattle.link.specs.declared.calls.Call.TheVariants as call
use Rattle.link.specs.Runs.{Asked, comes_to, run, reset_state}
use Rattle.promises.specs.Next.{reliably}
use Rattle.promises.specs.Repeats.{Line, own, again, original, played}
use Rattle.promises.specs.Reports.{reported}

-- a reliable arrival, with its settings and its datagram
pub record Report : Type 0 where
  pub settings : Settings
  pub arrival : Arrival
  pub datagram : List ℕ

abbrev pub brings : Report → Asked
brings k = reliably k.settings k.arrival k.datagram

-- a number of a channel's log, with at most 32,768 after it
pub record Reported (log : List ℕ) (n : ℕ) : Type 0 where
  pub front : List ℕ
  pub back : List ℕ
  pub is : log ≡ front ++ (n ∷ back)
  pub few : length back ≤ 32768

-- each inserted arrival repeats a number of its channel's log; the logs are those of the original calls
abbrev pub RepeatsReports : List (Line Report) → State → (ℕ → List ℕ) → Type 0
RepeatsReports [] x logs = Unit {0}
RepeatsReports (own a ∷ ls) x logs = RepeatsReports ls (comes_to a x).after (λ (channel : ℕ). reported channel a x (logs channel))
RepeatsReports (again k ∷ ls) x logs = Reported (logs k.arrival.channel) k.arrival.number.0 × RepeatsReports ls x logs

abbrev pub NoTraceReports : Type 0
NoTraceReports =
    (mtu : ℕ) (kept : Kept) (store second : List ℕ) (lines : List (Line Report)) → let x = reset_state mtu kept store second in
    RepeatsReports lines x (λ (channel : ℕ). []) → played brings lines x ≡ run (original lines) x

-- a piece, with its settings and its datagram
pub record PieceReport : Type 0 where
  pub settings : Settings
  pub piece : Piece
  pub datagram : List ℕ

abbrev pub brings_piece : PieceReport → Asked
brings_piece k = record { settings = k.settings; call = call.Inward (inw.FragmentArrival k.piece); datagram = k.datagram }

-- a repeat: of the channel's unfinished block, and marked; or of a block that is not there unfinished, whose start is a number of the channel's log
abbrev pub RepeatsPiece : Option ℕ → Piece → Peer → List ℕ → Type 0
RepeatsPiece (Some n) a p log = piece_marked p.marks a.fragment.number ≡ true
RepeatsPiece None a p log = Reported log a.start.0

abbrev pub RepeatsPieces : List (Line PieceReport) → State → (ℕ → List ℕ) → Type 0
RepeatsPieces [] x logs = Unit {0}
RepeatsPieces (own a ∷ ls) x logs = RepeatsPieces ls (comes_to a x).after (λ (channel : ℕ). reported channel a x (logs channel))
RepeatsPieces (again k ∷ ls) x logs =
    RepeatsPiece (unfinished_on k.piece x.peer) k.piece x.peer (logs k.piece.channel) × RepeatsPieces ls x logs

abbrev pub NoTracePieces : Type 0
NoTracePieces =
    (mtu : ℕ) (kept : Kept) (store second : List ℕ) (lines : List (Line PieceReport)) → let x = reset_state mtu kept store second in
    RepeatsPieces lines x (λ (channel : ℕ). []) → played brings_piece lines x ≡ run (original lines) x
