-- Dispatch comes out as the rule says, where the gate is open: refused with 2, or done, with nothing ready or some. The argument: each part
-- is given by its equation; a sound record's count is at most 8; a channel stored as it was leaves the record as it was.
use Rattle.std.specs.Prelude.{Ok, Err}
use Rattle.std.proofs.Common.{◌≡◌, ℕ, ◌<◌, ◌≤◌, Bool, true, false, eqb, get_or, refl, arith, le-ltb, lt-ltb, eqb-true}
use lib.Seq.{set-get_or}
use Rattle.numbers.specs.Pick.{pick}
use Rattle.numbers.specs.declared.refusals.Refusal.TheVariants.{InvalidChannel}
use Rattle.record.specs.Lists.{in_items}
use Rattle.record.specs.Sizes.{channels}
use Rattle.record.specs.Fresh.{no_channel}
use Rattle.record.specs.declared.groups.Channel.{Channel}
use Rattle.peer.specs.Outcome.{Came}
use Rattle.peer.specs.Calls.{answer_of}
use Rattle.peer.specs.declared.settings.Settings.{Settings}
use Rattle.peer.specs.declared.Peer.{Peer}
use Rattle.peer.specs.declared.gate.Lent.TheVariants.{Nothing}
use Rattle.peer.proofs.Gates.{came_open, open_sound, AtGate}
use Rattle.peer.proofs.Ranges.{count_high}
use Rattle.dispatch.specs.Dispatching.{ready_count, ready_last, moved_on, dispatched_by}
use Rattle.dispatch.specs.Dispatching.{Dispatched}
use Rattle.dispatch.specs.Calls.{with_dispatch, dispatched_on, dispatches_sound, dispatches}

-- the channel, how many of its list are ready, and the number that is then the last
module _ (channel : ℕ) (p : Peer) where
  abbrev pub chosen : Channel
  chosen = get_or p.channels channel no_channel

  abbrev pub ready : ℕ
  ready = ready_count p.incoming (in_items chosen.held) chosen.incoming_reliable.0

  abbrev pub last : ℕ
  last = ready_last p.incoming (in_items chosen.held) chosen.incoming_reliable.0

  abbrev pub gone : Dispatched
  gone = moved_on ready last chosen p.lists p.unsequenced

  -- a property that the record has where none is ready, and the record from which they went
  pub dispatched_has : (P : Peer → Type 0) → (ready ≡ 0 → P p) → P (with_dispatch channel gone p) → P (dispatched_on channel p)
  dispatched_has P none some = go (eqb ready 0) refl
    where
      go : (b : Bool) → eqb ready 0 ≡ b
          → P (with_dispatch channel (pick b (record { channel = chosen; lists = p.lists; unsequenced = p.unsequenced }) gone) p)
      go true e = rw (set-get_or p.channels channel no_channel) (none (eqb-true ready 0 e))
      go false e = some

-- ws and g are what the code answered
module _ (s : Settings) (channel : ℕ) (p : Peer)
    (g : AtGate s Nothing p) (opens : g.gate ≡ Ok tt) where
  pub dispatch_refused : p.standing.channels ≤ channel → Came answer_of (dispatches s channel p) (Err InvalidChannel) p
  dispatch_refused h =
      came_open g p (dispatches_sound channel p) answer_of (Err InvalidChannel) p opens
      (rw (le-ltb channel p.standing.channels h) (record { answer = refl; after = refl }))

  module _ (h : channel < p.standing.channels) where
    pub channel_exists : channel < channels
    channel_exists = omega (arith, h, count_high p (open_sound g opens))

    -- c is the channel as the code read it, d what it made of it
    pub dispatch_done : (c : Channel) (d : Dispatched) → c ≡ get_or p.channels channel no_channel
        → d ≡ dispatched_by p.incoming c p.lists p.unsequenced → Came answer_of (dispatches s channel p) (Ok tt) (with_dispatch channel d p)
    dispatch_done c d q z =
        came_open g p (dispatches_sound channel p) answer_of (Ok tt) (with_dispatch channel d p) opens
        (rw (lt-ltb channel p.standing.channels h) (record { answer = refl; after = rw (z, q) }))
