-- The outgoing ledger: along a run every command that was queued is in exactly one place: in one of the three lists, removed by an acknowledgement that named
-- its number and channel, or freed by a send step that needed no answer. On each channel the reliable numbers are 1, 2, 3 and so on, past 65,535 to 0, in the order of queueing.
use Rattle.std.specs.Prelude.{ℕ, ◌+◌, ◌≡◌, Bool, true, List, [], ◌∷◌, ◌++◌, map, eqb, length, get_or, drop}
use Rattle.numbers.specs.Pick.{pick, both}
use Rattle.record.specs.Lists.{out_items}
use Rattle.cells.specs.Runs.{has}
use Rattle.command.specs.declared.fields.Command.{Command}
use Rattle.record.specs.Damage.{used_out}
use Rattle.record.specs.Fresh.{no_outgoing}
use Rattle.record.specs.declared.groups.Outgoing.{Outgoing}
use Rattle.command.specs.Flags.{acknowledged}
use Rattle.peer.specs.Outcome.{State}
use Rattle.peer.specs.declared.Peer.{Peer}
use Rattle.peer.specs.declared.defaults.Kept.{Kept}
use Rattle.link_out.specs.declared.calls.Call.{Call as Outward}
use Rattle.link_out.specs.declared.calls.Call.TheVariants as out
use Rattle.link.specs.Runs.{Asked, comes_to, run, reset_state}
use Rattle.link.specs.declared.calls.Call.{Call}
use Rattle.link.specs.declared.calls.Call.TheVariants as call
use Rattle.promises.specs.Counts.{count, those}
use Rattle.promises.specs.Packets.{is_reset}
use Rattle.promises.specs.Reports.{series}

-- what a command keeps while it waits and is sent: all but its sent time, its timeout and its attempts
pub record Item : Type 0 where
  pub command : Command
  pub reliable : ℕ
  pub unreliable : ℕ
  pub queued : ℕ
  pub offset : ℕ
  pub length : ℕ
  pub packet : Bool

abbrev pub item_of : Outgoing → Item
item_of o =
    record {
      command = o.command;
      reliable = o.reliable.0;
      unreliable = o.unreliable.0;
      queued = o.queued;
      offset = o.offset;
      length = o.length;
      packet = o.packet;
    }

-- the commands in these slots
abbrev pub items_at : Peer → List ℕ → List Item
items_at p ss = map (λ (s : ℕ). item_of (get_or p.outgoing s no_outgoing)) ss

-- those in the three lists
abbrev pub waiting : Peer → List Item
waiting p = items_at p (used_out p.lists)

-- what joined outgoing and send-reliable at their ends
abbrev pub joined_out : Peer → Peer → List Item
joined_out p q =
    items_at q (drop (length (out_items p.lists.outgoing)) (out_items q.lists.outgoing))
    ++ items_at q (drop (length (out_items p.lists.send_reliable)) (out_items q.lists.send_reliable))

-- the slots of a list that another has not
unfoldable pub missing : List ℕ → List ℕ → List ℕ
missing [] after = []
missing (s ∷ ss) after = pick (has after s) (missing ss after) (s ∷ missing ss after)

-- what the three lists named and name no longer
abbrev pub gone : Peer → Peer → List Item
gone p q = items_at p (missing (used_out p.lists) (used_out q.lists))

-- a command that an acknowledgement removed, with the number and the channel that it named
pub record Removed : Type 0 where
  pub item : Item
  pub number : ℕ
  pub channel : ℕ

abbrev pub heard : ℕ → ℕ → Item → Removed
heard number channel i = record { item = i; number = number; channel = channel }

abbrev pub is_named : Removed → Bool
is_named r = both (eqb r.item.reliable r.number) (eqb r.item.command.channel r.channel)

-- since the latest reset, each in its order: queued; removed by acknowledgements; freed by send steps
pub record Outbook : Type 0 where
  pub queued : List Item
  pub removed : List Removed
  pub freed : List Item

abbrev pub items_of : List Removed → List Item
items_of rs = map (λ (r : Removed). r.item) rs

abbrev pub fresh_outbook : Outbook
fresh_outbook = record { queued = []; removed = []; freed = [] }

abbrev pub queues : List Item → Outbook → Outbook
queues is b = record { queued = b.queued ++ is; removed = b.removed; freed = b.freed }

-- what a call of the sending side that led from one record to another writes
abbrev pub enters : Outward → Peer → Peer → Outbook → Outbook
enters out.Ping p q b = queues (joined_out p q) b
enters (out.Send channel length flags) p q b = queues (joined_out p q) b
enters (out.Setup piece) p q b = queues (joined_out p q) b
enters (out.SendStep queue time) p q b = record { queued = b.queued; removed = b.removed; freed = b.freed ++ gone p q }
enters (out.Acknowledgement channel number sent clock) p q b =
    record { queued = b.queued; removed = b.removed ++ map (heard number.0 channel) (gone p q); freed = b.freed }
enters (out.TimeoutCheck clock) p q b = b
enters (out.Throttle sample) p q b = b

abbrev pub booked : Call → Peer → Peer → Outbook → Outbook
booked (call.Outward c) p q b = enters c p q b
booked (call.Inward c) p q b = b
booked call.Reset p q b = b
booked (call.Begin mtu channels) p q b = b
booked (call.SetState state) p q b = b

abbrev pub writes_out : Asked → State → Outbook → Outbook
writes_out a x b =
    let o = comes_to a x in pick (is_reset a.call o.answer) fresh_outbook (booked a.call x.peer o.after.peer b)

unfoldable pub outbook : List Asked → State → Outbook → Outbook
outbook [] x b = b
outbook (a ∷ rest) x b = outbook rest (comes_to a x).after (writes_out a x b)

-- a command that got a reliable number of this channel: one that asks for an answer; on channel 255, the peer itself, any
abbrev pub numbered_on : ℕ → Item → Bool
numbered_on channel i = both (eqb i.command.channel channel) (pick (eqb channel 255) true (acknowledged i.command.byte))

pub record InOnePlace (b : Outbook) (p : Peer) : Type 0 where
  -- whatever is asked of commands: those in the lists, removed and freed are the queued ones, each once
  pub once : (f : Item → Bool) → count f b.queued ≡ count f (waiting p) + count f (items_of b.removed) + count f b.freed
  -- what an acknowledgement removed bears the number and the channel that it named
  pub named : count is_named b.removed ≡ length b.removed
  -- what a send step freed asked for no answer
  pub plain : count (λ (i : Item). acknowledged i.command.byte) b.freed ≡ 0
  pub numbers : (channel : ℕ) → let is = those (numbered_on channel) b.queued in map (λ (i : Item). i.reliable) is ≡ series 0 (length is)

abbrev pub NoneLost : Type 0
NoneLost =
    (mtu : ℕ) (kept : Kept) (store second : List ℕ) (calls : List Asked) → let x = reset_state mtu kept store second in
    InOnePlace (outbook calls x fresh_outbook) (run calls x).end.peer
