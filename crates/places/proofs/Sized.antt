-- The record of any numbers has as many channels and slots as there are. The argument: a row for each, whatever the numbers.
use mathlib.Core.List.{List}
use Prim.Native.Nat.{ℕ}
use Rattle.pool.specs.Slots.{slot_from, in_slot_from}
use Rattle.pool.proofs.Rows.{rows_length}
use Rattle.peer.specs.Sounds.{Whole}
use Rattle.places.specs.Whole.{sizes, numbers, parts, made, whole, channel_from}

pub sized : (ws : List ℕ) → Whole (whole ws)
unfolding made parts numbers sizes
sized ws =
    record {
      channels = rows_length channel_from 17 8 _;
      outgoing = rows_length slot_from 26 32 _;
      incoming = rows_length in_slot_from 6 12 _;
    }
