-- Which counters a command steps, and which numbers it gets: the source's tests in the source's order.
use Rattle.std.specs.Prelude.{ℕ, List, ◌==◌, slice_index_or, slice_set}
use Rattle.numbers.specs.Pick.{pick}
use Rattle.numbers.specs.Counters.{step}
use Rattle.numbers.specs.declared.counters.Reliable.{Reliable}
use Rattle.numbers.specs.declared.counters.Unreliable.{Unreliable}
use Rattle.numbers.specs.declared.counters.Group.{Group}
use Rattle.command.specs.Flags.{acknowledged, unsequenced}
use Rattle.record.specs.Channels.{is_itself}
use Rattle.record.specs.Fresh.{no_channel}
use Rattle.record.specs.Updates.{with_numbers}
use Rattle.record.specs.declared.groups.Channel.{Channel}
use Rattle.outbox.specs.declared.counting.Counters.{Counters}
use Rattle.outbox.specs.declared.counting.Stamped.{Stamped}

-- the counters, one of them a step on
abbrev pub own_step : Counters → Counters
own_step k = record { own = record { 0 = step k.own.0 }; reliable = k.reliable; unreliable = k.unreliable; group = k.group }

-- a step of the reliable number begins the unreliable one anew
abbrev pub reliable_step : Counters → Counters
reliable_step k = record { own = k.own; reliable = record { 0 = step k.reliable.0 }; unreliable = record { 0 = 0 }; group = k.group }

abbrev pub group_step : Counters → Counters
group_step k = record { own = k.own; reliable = k.reliable; unreliable = k.unreliable; group = record { 0 = step k.group.0 } }

abbrev pub unreliable_step : Counters → Counters
unreliable_step k = record { own = k.own; reliable = k.reliable; unreliable = record { 0 = step k.unreliable.0 }; group = k.group }

-- the rest: only offset 0, a packet's first piece, steps the unreliable number
abbrev pub rest_step : ℕ → Counters → Counters
rest_step offset k = pick (offset == 0) (unreliable_step k) k

-- the counters after a command: channel 255 first, then flag 128, then flag 64, then the rest
abbrev pub counters_after : ℕ → ℕ → ℕ → Counters → Counters
counters_after byte channel offset k =
    pick (is_itself channel) (own_step k)
    (pick (acknowledged byte) (reliable_step k) (pick (unsequenced byte) (group_step k) (rest_step offset k)))

-- the command's reliable number, off the counters as they then stand
abbrev pub reliable_of : ℕ → ℕ → Counters → Reliable
reliable_of byte channel k =
    pick (is_itself channel) k.own (pick (acknowledged byte) k.reliable (pick (unsequenced byte) (record { 0 = 0 }) k.reliable))

-- and its unreliable number, 0 but for the rest
abbrev pub unreliable_of : ℕ → ℕ → Counters → Unreliable
unreliable_of byte channel k =
    pick (is_itself channel) (record { 0 = 0 })
    (pick (acknowledged byte) (record { 0 = 0 }) (pick (unsequenced byte) (record { 0 = 0 }) k.unreliable))

abbrev pub stamped_by : Counters → Reliable → Unreliable → Stamped
stamped_by k reliable unreliable = record { counters = k; reliable = reliable; unreliable = unreliable }

abbrev pub stamped : ℕ → ℕ → ℕ → Counters → Stamped
stamped byte channel offset k =
    let after = counters_after byte channel offset k in
    stamped_by after (reliable_of byte channel after) (unreliable_of byte channel after)

-- a channel of the record; one as made new where there is none
abbrev pub channel_at : List Channel → ℕ → Channel
channel_at cs channel = slice_index_or cs channel no_channel

abbrev pub counters_at : Reliable → List Channel → ℕ → Group → Counters
counters_at own cs channel group =
    record {
      own = own;
      reliable = (channel_at cs channel).outgoing_reliable;
      unreliable = (channel_at cs channel).outgoing_unreliable;
      group = group;
    }

-- a channel's two outgoing numbers as counted; 255 has no place among the channels
abbrev pub numbered : List Channel → ℕ → Counters → List Channel
numbered cs channel k = slice_set cs channel (with_numbers (channel_at cs channel) k.reliable k.unreliable)
