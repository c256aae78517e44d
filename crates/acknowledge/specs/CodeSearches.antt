-- For functions inside the house alone: what both searches make of every slot, one answer each, so that no search takes the pool. Nothing here need be believed: proofs/RemovalLaws gives the rule back.
use Rattle.std.specs.Prelude.{ℕ, Bool, true, false, Option, List, map, slice_index_or}
use Rattle.numbers.specs.Pick.{pick}
use Rattle.command.specs.declared.fields.Fields.TheVariants.{Acknowledge}
use Rattle.record.specs.declared.groups.Lists.{Lists}
use Rattle.record.specs.declared.groups.Outgoing.{Outgoing}
use Rattle.pool.specs.declared.Brief.{Brief}
use Rattle.acknowledge.specs.Removal.{in_sent, in_queue, spot_by}
use Rattle.acknowledge.specs.declared.removal.Seen.{Seen}
use Rattle.acknowledge.specs.declared.removal.Seen.TheVariants.{GoesOn}
use Rattle.acknowledge.specs.declared.removal.Spot.{Spot}

abbrev pub look_of : Bool → ℕ → ℕ → Outgoing → Seen
look_of sent number channel o = pick sent (in_sent number channel o) (in_queue number channel o)

-- it goes on past a slot that does not exist
abbrev pub at : List Seen → ℕ → Seen
at looks s = slice_index_or looks s GoesOn

-- where the searches by looks find the command
abbrev pub spot_in : List Outgoing → ℕ → ℕ → Lists → Option Spot
spot_in slots number channel l = spot_by (at (map (look_of true number channel) slots)) (at (map (look_of false number channel) slots)) l

-- a slot that is this in brief: nothing here asks for the rest of it
abbrev pub slot_of : Brief → Outgoing
slot_of b =
    record {
      reliable = b.reliable;
      unreliable = record { 0 = 0 };
      sent = b.sent;
      timeout = b.timeout;
      queued = 0;
      offset = 0;
      length = b.length;
      attempts = b.attempts;
      packet = b.packet;
      command = record { byte = b.byte; channel = b.channel; number = record { 0 = 0 }; fields = Acknowledge (record { 0 = 0 }) 0 };
    }
