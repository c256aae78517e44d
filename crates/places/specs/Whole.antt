-- The record as the numbers that the caller lends: "The record's order" (document 01) at full size, every list with all its cells, every channel and every
-- slot. An outgoing slot has one number more, its fields' kind, so that any record can be written down. Any 1,236 numbers are a record: each is read modulo its width.
use Rattle.std.specs.Prelude.{ℕ, zero, suc, ◌+◌, ◌%◌, List, [], ◌∷◌, get_or, drop}
use Rattle.record.specs.declared.outgoing.OutList.{OutList}
use Rattle.record.specs.declared.incoming.InList.{InList}
use Rattle.lists.specs.Rows.{section, len_of, cells_of}
use Rattle.record.specs.declared.groups.Channel.{Channel}
use Rattle.pool.specs.Rows.{rows_from}
use Rattle.pool.specs.Slots.{slots_of, in_slots_of}
use Rattle.peer.specs.declared.Peer.{Peer}

-- a part of the record: so many numbers one by one, or a row of so many
pub data Size : Type 0 where
  each : ℕ → Size
  row : ℕ → Size

abbrev pub extent : Size → ℕ
extent (each n) = n
extent (row n) = n

-- "`ENetPeer`'s fields" up to the outgoing reliable number (0); the lists sent (43), send-reliable (76), outgoing (109), dispatched (142); flags, reserved,
-- incoming group, outgoing group (155); the 32 words (159); event data, waiting total, host count (191); channels (194); outgoing slots (330); incoming slots (1162); C-11: the two words of marks (1234)
unfoldable pub sizes : List Size
sizes = each 43 ∷ row 33 ∷ row 33 ∷ row 33 ∷ row 13 ∷ each 4 ∷ row 32 ∷ each 3 ∷ row 136 ∷ row 832 ∷ row 72 ∷ each 2 ∷ []

abbrev pub record_length : ℕ
record_length = 1236

-- n numbers from place k on
unfoldable pub numbers : ℕ → ℕ → List ℕ → List ℕ
numbers zero k ws = []
numbers (suc n) k ws = get_or ws k 0 ∷ numbers n (suc k) ws

abbrev pub part : Size → ℕ → List ℕ → List ℕ
part (each n) k ws = numbers n k ws
part (row n) k ws = section k n ws

-- the parts from place k on
unfoldable pub parts : List Size → ℕ → List ℕ → List (List ℕ)
parts [] k ws = []
parts (s ∷ ss) k ws = part s k ws ∷ parts ss (k + extent s) ws

-- a list: its length, then its cells
abbrev pub out_list_from : List ℕ → OutList
out_list_from r = record { len = len_of r; slots = cells_of r }

abbrev pub in_list_from : List ℕ → InList
in_list_from r = record { len = len_of r; slots = cells_of r }

-- a channel: "outgoing, then incoming reliable and unreliable number, its incoming list"
abbrev pub channel_width : ℕ
channel_width = 17

unfoldable pub channel_from : List ℕ → Channel
channel_from r =
    record {
      outgoing_reliable = record { 0 = get_or r 0 0 % 65536 };
      outgoing_unreliable = record { 0 = get_or r 1 0 % 65536 };
      incoming_reliable = record { 0 = get_or r 2 0 % 65536 };
      incoming_unreliable = record { 0 = get_or r 3 0 % 65536 };
      held = in_list_from (drop 4 r);
    }

abbrev pub channels_from : List ℕ → List Channel
channels_from ws = rows_from channel_from channel_width 8 ws

-- number k of part i
abbrev at : List (List ℕ) → ℕ → ℕ → ℕ
at s i k = get_or (get_or s i []) k 0

-- the record of these parts
unfoldable pub made : List (List ℕ) → Peer
made s =
    record {
      ids =
          record {
            outgoing_peer = at s 0 0 % 65536;
            incoming_peer = at s 0 1 % 65536;
            connect = at s 0 2;
            outgoing_session = at s 0 3 % 256;
            incoming_session = at s 0 4 % 256;
          };
      standing = record { state = at s 0 5; channels = at s 0 6 };
      bandwidth = record { incoming = at s 0 7; outgoing = at s 0 8; incoming_epoch = at s 0 9; outgoing_epoch = at s 0 10 };
      totals = record { incoming = at s 0 11; outgoing = at s 0 12 };
      times = record { last_send = at s 0 13; last_receive = at s 0 14; next_timeout = at s 0 15; earliest_timeout = at s 0 16 };
      loss = record { epoch = at s 0 17; sent = at s 0 18; lost = at s 0 19; loss = at s 0 20; variance = at s 0 21 };
      throttling =
          record {
            value = at s 0 22;
            limit = at s 0 23;
            counter = at s 0 24;
            epoch = at s 0 25;
            acceleration = at s 0 26;
            deceleration = at s 0 27;
            interval = at s 0 28;
          };
      limits = record { ping = at s 0 29; timeout = at s 0 30; minimum = at s 0 31; maximum = at s 0 32 };
      trips =
          record {
            last = at s 0 33;
            lowest = at s 0 34;
            last_variance = at s 0 35;
            highest_variance = at s 0 36;
            mean = at s 0 37;
            variance = at s 0 38;
          };
      flow = record { mtu = at s 0 39; window = at s 0 40; transit = at s 0 41; own_number = record { 0 = at s 0 42 % 65536 } };
      lists =
          record {
            sent = out_list_from (get_or s 1 []);
            send_reliable = out_list_from (get_or s 2 []);
            outgoing = out_list_from (get_or s 3 []);
            dispatched = in_list_from (get_or s 4 []);
          };
      unsequenced =
          record {
            flags = at s 5 0 % 65536;
            reserved = at s 5 1 % 65536;
            incoming = record { 0 = at s 5 2 % 65536 };
            outgoing = record { 0 = at s 5 3 % 65536 };
            words = get_or s 6 [];
          };
      waiting = record { event = at s 7 0; total = at s 7 1; queued = at s 7 2 };
      channels = channels_from (get_or s 8 []);
      outgoing = slots_of (get_or s 9 []);
      incoming = in_slots_of (get_or s 10 []);
      marks = record { low = at s 11 0; high = at s 11 1 };
    }

abbrev pub whole : List ℕ → Peer
whole ws = made (parts sizes 0 ws)
