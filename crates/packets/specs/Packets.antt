-- Which command a packet goes out as, and how a long one is cut. "The command follows the source's tests in their order; flags are
-- 1 reliable, 2 unsequenced, 8 unreliable fragment."
use Rattle.std.specs.Prelude.{ℕ, suc, zero, ◌+◌, ◌-◌, ◌/◌, min, ◌≡◌, Bool, true, not, List, [], ◌∷◌, leb, take}
use Rattle.numbers.specs.Pick.{pick, both}
use Rattle.numbers.specs.Bits.{bit}
use Rattle.numbers.specs.Counters.{step}
use Rattle.numbers.specs.declared.counters.Reliable.{Reliable}
use Rattle.numbers.specs.declared.counters.Unreliable.{Unreliable}
use Rattle.command.specs.declared.fields.Command.{Command}
use Rattle.command.specs.declared.fields.Fragment.{Fragment}
use Rattle.command.specs.declared.fields.Fields.{Fields}
use Rattle.command.specs.declared.fields.Fields.TheVariants.{SendReliable, SendUnreliable, SendFragment, SendUnsequenced, SendUnreliableFragment}
use Rattle.outbox.specs.declared.pieces.Piece.{Piece}
use Rattle.packets.specs.declared.Start.{Start}
use Rattle.packets.specs.declared.Start.TheVariants as start
use Rattle.packets.specs.declared.Cut.{Cut}

-- command bytes: "The low four bits are the number", "128 asks for acknowledgement, 64 says unsequenced"
abbrev pub reliable_byte : ℕ
reliable_byte = 6 + 128

abbrev pub unreliable_byte : ℕ
unreliable_byte = 7

abbrev pub fragment_byte : ℕ
fragment_byte = 8 + 128

abbrev pub unsequenced_byte : ℕ
unsequenced_byte = 9 + 64

abbrev pub unreliable_fragment_byte : ℕ
unreliable_fragment_byte = 12

-- the datagram's header, 4 bytes, and a fragment command's 24
abbrev pub overhead : ℕ
overhead = 28

abbrev pub checksum_size : ℕ
checksum_size = 4

-- "Fragment length is MTU - 28, less 4 with a checksum; longer is cut."
abbrev pub fragment_length : ℕ → Bool → ℕ
fragment_length mtu checksum = mtu - overhead - pick checksum checksum_size 0

-- as many whole fragments as fit, and one for the rest
abbrev pub piece_count : ℕ → ℕ → ℕ
piece_count fragment length = (length + fragment - 1) / fragment

abbrev pub is_reliable : ℕ → Bool
is_reliable flags = bit flags 0

abbrev pub is_unsequenced : ℕ → Bool
is_unsequenced flags = bit flags 1

abbrev pub is_fragment : ℕ → Bool
is_fragment flags = bit flags 3

-- the last number before a counter turns over
abbrev pub last_number : ℕ
last_number = 65535

-- the unreliable number has nowhere to go on to
abbrev pub spent : Unreliable → Bool
spent u = leb last_number u.0

-- a command before it is set up, which gives it its numbers
abbrev pub blank : ℕ → ℕ → Fields → Command
blank byte channel fields = record { byte = byte; channel = channel; number = record { 0 = 0 }; fields = fields }

-- a packet that is not cut: flag 2 without flag 1 is unsequenced; then flag 1, or a spent number, reliable; the rest unreliable
abbrev pub whole_command : ℕ → Unreliable → ℕ → ℕ → Command
whole_command flags u channel length =
    pick (both (is_unsequenced flags) (not (is_reliable flags))) (blank unsequenced_byte channel (SendUnsequenced (record { 0 = 0 }) length))
    (pick (pick (is_reliable flags) true (spent u)) (blank reliable_byte channel (SendReliable length))
    (blank unreliable_byte channel (SendUnreliable (record { 0 = 0 }) length)))

abbrev pub whole : ℕ → Unreliable → ℕ → ℕ → Piece
whole flags u channel length = record { command = whole_command flags u channel length; packet = true; offset = 0; length = length }

-- a packet that is cut: flag 8 without flag 1 counts by the unreliable number, unless it is spent; else by the reliable one.
-- The number after the channel's, taken once, before any piece.
abbrev pub start_of : ℕ → Reliable → Unreliable → Start
start_of flags r u =
    pick (both (is_fragment flags) (both (not (is_reliable flags)) (not (spent u))))
    (start.Unreliable (record { 0 = step u.0 }))
    (start.Reliable (record { 0 = step r.0 }))

-- a packet cut by its start and the fragment length
abbrev pub cut_by : Start → ℕ → ℕ → ℕ → Cut
cut_by start channel length fragment =
    record { channel = channel; length = length; fragment = fragment; count = piece_count fragment length; start = start }

-- piece j of a cut packet, at an offset
abbrev pub fragment_of : Cut → ℕ → ℕ → ℕ → Fragment
fragment_of x j offset length = record { length = length; count = x.count; number = j; total = x.length; offset = offset }

abbrev pub cut_command : Start → ℕ → Fragment → Command
cut_command (start.Reliable n) channel f = blank fragment_byte channel (SendFragment n f)
cut_command (start.Unreliable n) channel f = blank unreliable_fragment_byte channel (SendUnreliableFragment n f)

-- a fragment length, or what is left
abbrev pub length_at : Cut → ℕ → ℕ
length_at x offset = min x.fragment (x.length - offset)

abbrev pub cut_piece : Cut → ℕ → ℕ → Piece
cut_piece x j offset =
    let length = length_at x offset in
    record { command = cut_command x.start x.channel (fragment_of x j offset length); packet = true; offset = offset; length = length }

-- the pieces that are left, from piece j at its offset on: the next one begins where this one ends
unfoldable pub cut_from : Cut → ℕ → ℕ → ℕ → List Piece
cut_from x zero j offset = []
cut_from x (suc left) j offset = cut_piece x j offset ∷ cut_from x left (j + 1) (offset + length_at x offset)

abbrev pub pieces : Cut → List Piece
pieces x = cut_from x x.count 0 0

-- how many bytes pieces carry together
unfoldable pub span : List Piece → ℕ
span [] = 0
span (y ∷ ys) = y.length + span ys

-- piece i of a packet: it begins where the pieces before it end, and its command tells the packet, the piece's place and its bytes
pub record Part (x : Cut) (i : ℕ) (y : Piece) : Type 0 where
  pub packet : y.packet ≡ true
  pub offset : y.offset ≡ span (take i (pieces x))
  pub command :
      y.command
      ≡ cut_command x.start x.channel (record { length = y.length; count = x.count; number = i; total = x.length; offset = y.offset })
