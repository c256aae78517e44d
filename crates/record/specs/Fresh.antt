-- "every other number 0, all lists empty": the parts of a record with nothing in them.
use Rattle.std.specs.Prelude.{false, replicate}
use Rattle.command.specs.declared.fields.Fields.TheVariants.{Acknowledge}
use Rattle.record.specs.Lists.{outgoing, incoming}
use Rattle.record.specs.declared.outgoing.OutList.{OutList}
use Rattle.record.specs.declared.incoming.InList.{InList}
use Rattle.record.specs.declared.groups.Lists.{Lists}
use Rattle.record.specs.declared.groups.Channel.{Channel}
use Rattle.record.specs.declared.groups.Outgoing.{Outgoing}
use Rattle.record.specs.declared.groups.Incoming.{Incoming}

abbrev pub no_out : OutList
no_out = record { len = 0; slots = replicate outgoing 0 }

abbrev pub no_in : InList
no_in = record { len = 0; slots = replicate incoming 0 }

unfoldable pub no_lists : Lists
no_lists = record { sent = no_out; send_reliable = no_out; outgoing = no_out; dispatched = no_in }

unfoldable pub no_channel : Channel
no_channel =
    record {
      outgoing_reliable = record { 0 = 0 };
      outgoing_unreliable = record { 0 = 0 };
      incoming_reliable = record { 0 = 0 };
      incoming_unreliable = record { 0 = 0 };
      held = no_in;
    }

unfoldable pub no_outgoing : Outgoing
no_outgoing =
    record {
      reliable = record { 0 = 0 };
      unreliable = record { 0 = 0 };
      sent = 0;
      timeout = 0;
      queued = 0;
      offset = 0;
      length = 0;
      attempts = 0;
      packet = false;
      command = record { byte = 0; channel = 0; number = record { 0 = 0 }; fields = Acknowledge (record { 0 = 0 }) 0 };
    }

unfoldable pub no_incoming : Incoming
no_incoming = record { byte = 0; channel = 0; number = record { 0 = 0 }; fragments = 0; remaining = 0; length = 0 }
