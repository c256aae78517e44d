-- The slot that a piece fills once its counters have stepped, how the data total grows, and which list the slot joins.
use Rattle.std.specs.Prelude.{ℕ, ◌+◌, ◌%◌, Bool}
use Rattle.numbers.specs.Pick.{pick, both}
use Rattle.numbers.specs.Modulo.{sum}
use Rattle.numbers.specs.declared.counters.Unreliable.{Unreliable}
use Rattle.numbers.specs.declared.counters.Group.{Group}
use Rattle.command.specs.Layout.{size_of}
use Rattle.command.specs.declared.fields.Fields.{Fields}
use Rattle.command.specs.declared.fields.Fields.TheVariants as vr
use Rattle.record.specs.Updates.{with_reliable_list, with_outgoing_list, longer}
use Rattle.record.specs.declared.groups.Lists.{Lists}
use Rattle.record.specs.declared.groups.Outgoing.{Outgoing}
use Rattle.command.specs.Flags.{acknowledged}
use Rattle.outbox.specs.declared.counting.Stamped.{Stamped}
use Rattle.outbox.specs.declared.pieces.Piece.{Piece}

-- command 7 gets the unreliable number and command 9 the group, as they then stand
abbrev pub fields_now : Unreliable → Group → Fields → Fields
fields_now u g (vr.SendUnreliable n l) = vr.SendUnreliable u l
fields_now u g (vr.SendUnsequenced old l) = vr.SendUnsequenced g l
fields_now u g (vr.Acknowledge n t) = vr.Acknowledge n t
fields_now u g (vr.Connect c d) = vr.Connect c d
fields_now u g (vr.VerifyConnect c) = vr.VerifyConnect c
fields_now u g (vr.Disconnect d) = vr.Disconnect d
fields_now u g vr.Ping = vr.Ping
fields_now u g (vr.SendReliable l) = vr.SendReliable l
fields_now u g (vr.SendFragment n f) = vr.SendFragment n f
fields_now u g (vr.BandwidthLimit i o) = vr.BandwidthLimit i o
fields_now u g (vr.ThrottleConfigure i a d) = vr.ThrottleConfigure i a d
fields_now u g (vr.SendUnreliableFragment n f) = vr.SendUnreliableFragment n f

-- a slot not yet sent: the header's number is the reliable number that the command got
abbrev pub slot_of : Piece → Stamped → ℕ → Outgoing
slot_of x s queued =
    record {
      reliable = s.reliable;
      unreliable = s.unreliable;
      sent = 0;
      timeout = 0;
      queued = queued;
      offset = x.offset;
      length = x.length;
      attempts = 0;
      packet = x.packet;
      command =
          record {
            byte = x.command.byte;
            channel = x.command.channel;
            number = s.reliable;
            fields = fields_now s.unreliable s.counters.group x.command.fields;
          };
    }

-- by the command's size and the piece's length, modulo 2^32
abbrev pub grown : ℕ → Piece → ℕ
grown total x = sum 32 total (size_of (x.command.byte % 16) + x.length)

-- send-reliable only with flag 128 and a packet, else outgoing
abbrev pub to_reliable : Piece → Bool
to_reliable x = both (acknowledged x.command.byte) x.packet

-- slot s at the end of the piece's list
abbrev pub lists_with : Lists → Piece → ℕ → Lists
lists_with l x s =
    pick (to_reliable x) (with_reliable_list l (longer l.send_reliable s)) (with_outgoing_list l (longer l.outgoing s))
