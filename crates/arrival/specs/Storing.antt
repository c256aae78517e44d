-- What "stored" means, for both arrivals: "the lowest free one is taken", "each a cell of 4,096 bytes in one lent store", "the cell's bytes past
-- the length stay", "length added to the waiting total". A stored packet has 0 fragments and 0 remaining (decision 83).
use Rattle.std.specs.Prelude.{ℕ, ◌+◌, ◌*◌, Bool, List, length, drop, nat_le, Option}
use Rattle.std.proofs.Math.Seq.{paste}
use Rattle.numbers.specs.Pick.{pick, both}
use Rattle.numbers.specs.Modulo.{sum}
use Rattle.numbers.specs.declared.counters.Reliable.{Reliable}
use Rattle.record.specs.Lists.{incoming}
use Rattle.cells.specs.Free.{lowest}
use Rattle.record.specs.Sizes.{cell}
use Rattle.record.specs.Damage.{below, used_in}
use Rattle.record.specs.Updates.{with_dispatched, with_total, in_longer}
use Rattle.record.specs.declared.groups.Lists.{Lists}
use Rattle.record.specs.declared.groups.Channel.{Channel}
use Rattle.record.specs.declared.groups.Incoming.{Incoming}
use Rattle.record.specs.declared.groups.Waiting.{Waiting}

-- "A slot is free when no list names it", of those below the count
abbrev pub free_slot : Lists → List Channel → ℕ → Option ℕ
free_slot l cs count = lowest incoming (used_in l (below cs count))

-- the whole byte and the header's number are kept
abbrev pub incoming_of : ℕ → ℕ → Reliable → ℕ → Incoming
incoming_of byte channel number length =
    record { byte = byte; channel = channel; number = number; fragments = 0; remaining = 0; length = length }

-- "Stored means delivered: to the end of dispatched"
abbrev pub delivered : Lists → ℕ → Lists
delivered l s = with_dispatched l (in_longer l.dispatched s)

abbrev pub awaiting : Waiting → ℕ → Waiting
awaiting w length = with_total w (sum 32 w.total length)

-- the datagram has so many bytes from a place on: else "past the datagram's end"
abbrev pub within_datagram : List ℕ → ℕ → ℕ → Bool
within_datagram datagram place n = nat_le (place + n) (length datagram)

-- n bytes of the datagram from a place on, to a place of the store; where the store or the datagram is too short, nothing changes
abbrev pub laid : List ℕ → ℕ → List ℕ → ℕ → ℕ → List ℕ
laid store to datagram place n =
    pick (both (nat_le (to + n) (length store)) (within_datagram datagram place n)) (paste store to (drop place datagram) n) store

-- to cell s
abbrev pub filled : List ℕ → ℕ → List ℕ → ℕ → ℕ → List ℕ
filled store s datagram place n = laid store (s * cell) datagram place n
