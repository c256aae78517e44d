-- The pools in the numbers that the caller lends. An outgoing slot has 26: nine of its own, its command's row of 16, its fields' kind.
-- Any numbers are a pool: each is read modulo its width, and a kind that is none has the fields of an empty slot.
use Rattle.std.specs.Prelude.{ℕ, ◌*◌, ◌%◌, Bool, List, [], ◌∷◌, ◌++◌, leb, eqb, get_or, take, drop}
use Rattle.numbers.specs.Pick.{pick, both}
use Rattle.command.specs.Layout.{known}
use Rattle.command.specs.Bytes.{pad}
use Rattle.command.specs.Rows.{kind_of, row_of}
use Rattle.wire.specs.Decoded.{decoded}
use Rattle.record.specs.Lists.{outgoing, incoming}
use Rattle.record.specs.Channels.{on_channel}
use Rattle.record.specs.declared.groups.Outgoing.{Outgoing}
use Rattle.record.specs.declared.groups.Incoming.{Incoming}
use Rattle.pool.specs.declared.Brief.{Brief}
use Rattle.pool.specs.Rows.{rows_from}

abbrev pub width : ℕ
width = 26

abbrev pub pool_length : ℕ
pool_length = outgoing * width

abbrev pub flag : Bool → ℕ
flag b = pick b 1 0

-- a slot's numbers, read
unfoldable pub slot_from : List ℕ → Outgoing
slot_from ws =
    record {
      reliable = record { 0 = get_or ws 0 0 % 65536 };
      unreliable = record { 0 = get_or ws 1 0 % 65536 };
      sent = get_or ws 2 0;
      timeout = get_or ws 3 0;
      queued = get_or ws 4 0;
      offset = get_or ws 5 0;
      length = get_or ws 6 0 % 65536;
      attempts = get_or ws 7 0 % 65536;
      packet = leb 1 (get_or ws 8 0);
      command = decoded (get_or ws 25 0) (take 16 (drop 9 ws));
    }

-- and written
unfoldable pub words_of : Outgoing → List ℕ
words_of o =
    o.reliable.0 ∷ o.unreliable.0 ∷ o.sent ∷ o.timeout ∷ o.queued ∷ o.offset ∷ o.length ∷ o.attempts ∷ flag o.packet
    ∷ (pad 16 (row_of o.command) ++ (kind_of o.command.fields ∷ []))

abbrev pub slots_of : List ℕ → List Outgoing
slots_of ws = rows_from slot_from width outgoing ws

-- what searches and walks ask of a slot: all but its unreliable number, queue time, offset and its command's number and fields
abbrev pub brief_of : Outgoing → Brief
brief_of o =
    record {
      reliable = o.reliable;
      byte = o.command.byte;
      channel = o.command.channel;
      sent = o.sent;
      timeout = o.timeout;
      length = o.length;
      attempts = o.attempts;
      packet = o.packet;
    }

-- The incoming pool: six numbers a slot, in document 01's order.
abbrev pub in_width : ℕ
in_width = 6

abbrev pub in_pool_length : ℕ
in_pool_length = incoming * in_width

unfoldable pub in_slot_from : List ℕ → Incoming
in_slot_from ws =
    record {
      byte = get_or ws 0 0 % 256;
      channel = get_or ws 1 0 % 256;
      number = record { 0 = get_or ws 2 0 % 65536 };
      fragments = get_or ws 3 0;
      remaining = get_or ws 4 0;
      length = get_or ws 5 0;
    }

abbrev pub in_slots_of : List ℕ → List Incoming
in_slots_of ws = rows_from in_slot_from in_width incoming ws

-- For functions inside the house alone: what a slot of these numbers is good for
abbrev pub kind_from : ℕ → ℕ
kind_from k = pick (known k) k 1

abbrev pub fit_of : ℕ → ℕ → ℕ → ℕ → Bool
fit_of byte channel kind count = both (eqb (byte % 256 % 16) (kind_from kind)) (on_channel (channel % 256) count)

abbrev pub grade_of : ℕ → ℕ → ℕ → ℕ → ℕ → ℕ
grade_of byte channel kind attempts count = pick (fit_of byte channel kind count) (pick (leb 1 (attempts % 65536)) 2 1) 0
