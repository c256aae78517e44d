-- Dispatch: what of a channel's list is ready joins dispatched, by the source's rule. 2: the channel is not below the count.
use Rattle.std.specs.Prelude.{ℕ, nat_lt, slice_index_or, slice_set, ⊤, Result, Ok, Err}
use Rattle.numbers.specs.Pick.{pick}
use Rattle.numbers.specs.declared.refusals.Refusal.{Refusal}
use Rattle.numbers.specs.declared.refusals.Refusal.TheVariants.{InvalidChannel}
use Rattle.record.specs.Fresh.{no_channel}
use Rattle.record.specs.declared.groups.Standing.{Standing}
use Rattle.peer.specs.Outcome.{Outcome, finished}
use Rattle.peer.specs.Gate.{behind, on_record}
use Rattle.peer.specs.Updates.{with_arrival}
use Rattle.peer.specs.declared.settings.Settings.{Settings}
use Rattle.peer.specs.declared.Peer.{Peer}
use Rattle.dispatch.specs.Dispatching.{dispatched_by}
use Rattle.dispatch.specs.Dispatching.{Dispatched}

abbrev pub dispatch_gate : ℕ → Standing → Result ⊤ Refusal
dispatch_gate channel standing = pick (nat_lt channel standing.channels) (Ok tt) (Err InvalidChannel)

-- the record with a channel dispatched
abbrev pub with_dispatch : ℕ → Dispatched → Peer → Peer
with_dispatch channel d p =
    with_arrival p d.lists d.unsequenced p.waiting (slice_set p.channels channel d.channel) p.incoming

abbrev pub dispatched_on : ℕ → Peer → Peer
dispatched_on channel p =
    with_dispatch channel (dispatched_by p.incoming (slice_index_or p.channels channel no_channel) p.lists p.unsequenced) p

abbrev pub dispatches_sound : ℕ → Peer → Outcome Peer
dispatches_sound channel p = behind (dispatch_gate channel p.standing) p (finished (dispatched_on channel p))

abbrev pub dispatches : Settings → ℕ → Peer → Outcome Peer
dispatches s channel p = on_record s p (dispatches_sound channel p)
