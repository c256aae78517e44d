-- Every promise, proved: one term, a field each.
use Rattle.promises.specs.Promised.{Promised}
use Rattle.promises.proofs.Refusals.{answers_may, refused_unchanged, sound_undamaged}
use Rattle.promises.proofs.Shown.{answers_each}
use Rattle.promises.proofs.Eight.{eight_leaves, eight_moves, eight_first, ten_keeps}
use Rattle.promises.proofs.Sounding.{stays_sound, never_damaged}
use Rattle.promises.proofs.Alike.{respects_same}
use Rattle.promises.proofs.Traces.{no_trace, no_trace_original, far_apart}
use Rattle.promises.proofs.ReportTraces.{no_trace_reports, no_trace_pieces}
use Rattle.promises.proofs.Held.{nothing_stuck}
use Rattle.promises.proofs.NextReliable.{next_delivered}
use Rattle.promises.proofs.Marking.{near_stored, marked_exactly, stored_after_eight}
use Rattle.promises.proofs.Waiting.{waits}
use Rattle.promises.proofs.Comings.{comes_out}
use Rattle.promises.proofs.Reporting.{counts_once}
use Rattle.promises.proofs.BlockPromises.{block_whole, marked_changes_nothing, second_kept}
use Rattle.promises.proofs.Together.{cut_together}
use Rattle.promises.proofs.Transits.{in_transit}
use Rattle.promises.proofs.OutbookLaws.{none_lost}

pub promised : Promised
promised =
    record {
      answers_may = answers_may;
      answers_each = answers_each;
      refused_unchanged = refused_unchanged;
      eight_leaves = eight_leaves;
      eight_moves = eight_moves;
      eight_first = eight_first;
      ten_keeps = ten_keeps;
      sound_undamaged = sound_undamaged;
      stays_sound = stays_sound;
      never_damaged = never_damaged;
      respects_same = respects_same;
      no_trace = no_trace;
      no_trace_original = no_trace_original;
      far_apart = far_apart;
      no_trace_reports = no_trace_reports;
      no_trace_pieces = no_trace_pieces;
      nothing_stuck = nothing_stuck;
      next_delivered = next_delivered;
      near_stored = near_stored;
      marked_exactly = marked_exactly;
      stored_after_eight = stored_after_eight;
      waits = waits;
      comes_out = comes_out;
      counts_once = counts_once;
      block_whole = block_whole;
      marked_changes_nothing = marked_changes_nothing;
      second_kept = second_kept;
      cut_together = cut_together;
      in_transit = in_transit;
      none_lost = none_lost;
    }
