-- Every promise of docs/PROMISES.md, a field each: one term of this record, in proofs, is the proof of all.
use Rattle.promises.specs.Refusals.{AnswersMay, RefusedUnchanged, SoundUndamaged, EightLeaves, EightMoves, TenKeeps, AnswersEach}
use Rattle.promises.specs.Standing.{StaysSound, NeverDamaged, Waits, InTransit}
use Rattle.promises.specs.Alike.{RespectsSame}
use Rattle.promises.specs.Repeats.{NoTrace, NoTraceOriginal, FarApart}
use Rattle.promises.specs.ReportRepeats.{NoTraceReports, NoTracePieces}
use Rattle.promises.specs.Packets.{ComesOut}
use Rattle.promises.specs.Reports.{CountsOnce}
use Rattle.promises.specs.Held.{NothingStuck}
use Rattle.promises.specs.Next.{NextDelivered, NearStored}
use Rattle.promises.specs.Outbook.{NoneLost}
use Rattle.promises.specs.Marks.{MarkedExactly, StoredAfterEight}
use Rattle.promises.specs.Blocks.{BlockWhole, MarkedChangesNothing, EightFirst, SecondKept, CutTogether}

pub record Promised : Type 0 where
  -- 1. bad input gets its number, and that fixes what record and store then hold
  pub answers_may : AnswersMay
  pub answers_each : AnswersEach
  pub refused_unchanged : RefusedUnchanged
  pub eight_leaves : EightLeaves
  pub eight_moves : EightMoves
  pub eight_first : EightFirst
  pub ten_keeps : TenKeeps
  pub sound_undamaged : SoundUndamaged
  pub stays_sound : StaysSound
  pub never_damaged : NeverDamaged
  pub respects_same : RespectsSame
  -- 3. repeats leave no trace
  pub no_trace : NoTrace
  pub no_trace_original : NoTraceOriginal
  pub far_apart : FarApart
  pub no_trace_reports : NoTraceReports
  pub no_trace_pieces : NoTracePieces
  -- no report is dropped, none counted twice
  pub nothing_stuck : NothingStuck
  pub next_delivered : NextDelivered
  pub near_stored : NearStored
  pub marked_exactly : MarkedExactly
  pub stored_after_eight : StoredAfterEight
  pub waits : Waits
  pub comes_out : ComesOut
  pub counts_once : CountsOnce
  -- C-11: blocks
  pub block_whole : BlockWhole
  pub marked_changes_nothing : MarkedChangesNothing
  pub second_kept : SecondKept
  pub cut_together : CutTogether
  -- the sending side
  pub in_transit : InTransit
  pub none_lost : NoneLost
