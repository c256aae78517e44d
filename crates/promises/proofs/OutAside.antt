-- The calls that have nothing to do with the outgoing lists: set state, throttle, dispatch, receive and the arrivals; and begin, which makes the
-- channels new. The argument: none names the outgoing slots or the three lists; dispatch and an arrival change a channel's incoming side alone.
use Rattle.std.specs.Prelude.{None, Option, Some}
use Prim.Native.Nat.{ℕ}
use mathlib.Core.Path.{◌≡◌, refl, ap₂}
use mathlib.Core.Bool.{Bool, true, false}
use mathlib.Core.List.{List, map}
use lib.Dec.{leb, eqb}
use lib.ListN.{get_or, set}
use Rattle.std.specs.Prelude.{⊤, Result}
use Rattle.numbers.specs.Pick.{pick}
use Rattle.numbers.specs.declared.counters.Group.{Group}
use Rattle.numbers.specs.declared.counters.Reliable.{Reliable}
use Rattle.numbers.specs.declared.refusals.Refusal.{Refusal}
use Rattle.numbers.specs.declared.refusals.Refusal.TheVariants.{OutOfRange}
use Rattle.record.specs.Lists.{in_items}
use Rattle.cells.specs.Runs.{first}
use Rattle.record.specs.Damage.{used_out}
use Rattle.record.specs.Fresh.{no_channel, no_outgoing}
use Rattle.record.specs.declared.groups.Lists.{Lists}
use Rattle.record.specs.declared.groups.Unsequenced.{Unsequenced}
use Rattle.record.specs.declared.groups.Channel.{Channel}
use Rattle.record.specs.declared.groups.Incoming.{Incoming}
use Rattle.record.specs.declared.groups.Outgoing.{Outgoing}
use Rattle.peer.specs.Damage.{sound}
use Rattle.peer.specs.Gate.{fits, gate_of, behind}
use Rattle.peer.specs.States.{last_state}
use Rattle.peer.specs.Outcome.{State, Outcome, finished, unchanged}
use Rattle.peer.specs.declared.settings.Settings.{Settings}
use Rattle.peer.specs.declared.Peer.{Peer}
use Rattle.peer.specs.declared.gate.Lent.TheVariants as lent
use Rattle.peer.proofs.Gates.{behind_has}
use Rattle.lifecycle.specs.Calls.{begin_fits, begun, begins_sound, begins, stated, sets_state_sound, sets_state}
use Rattle.round_trip.specs.Calls.{throttles_sound, throttles}
use Rattle.dispatch.specs.Dispatching.{ready_count, ready_last, moved_on, dispatched_by}
use Rattle.dispatch.specs.Dispatching.{Dispatched}
use Rattle.dispatch.specs.Calls.{dispatch_gate, dispatched_on, dispatches_sound, dispatches}
use Rattle.receive.specs.Calls.{receives_from, receives_sound, receives}
use Rattle.arrival.specs.Arrivals.{arrived_slot}
use Rattle.arrival.specs.declared.Arrival.{Arrival}
use Rattle.arrival.specs.declared.Fate.TheVariants as fate
use Rattle.arrive_reliable.specs.Holding.{held_with}
use Rattle.arrive_unsequenced.specs.Calls.{arrives_unsequenced}
use Rattle.arrive_reliable.specs.Calls.{channel_of, reliable_after, arrives_reliable}
use Rattle.laws.proofs.Unsequenced.{unsequenced_has}
use Rattle.laws.proofs.Reliable.{reliable_has}
use Rattle.promises.specs.Outbook.{item_of, waiting}
use Rattle.promises.proofs.Unreported.{part_set}

-- the last reliable number that a channel gave out
abbrev pub given_on : List Channel → ℕ → Reliable
given_on cs c = (get_or cs c no_channel).outgoing_reliable

-- the counters of reliable numbers, and how many channels count
pub record Uncounted (p q : Peer) : Type 0 where
  pub own : q.flow.own_number ≡ p.flow.own_number
  pub many : q.standing.channels ≡ p.standing.channels
  pub given : (c : ℕ) → given_on q.channels c ≡ given_on p.channels c

pub record Aside (p q : Peer) : Type 0 where
  pub slots : q.outgoing ≡ p.outgoing
  pub names : used_out q.lists ≡ used_out p.lists
  pub counters : Uncounted p q

pub uncounted : (p : Peer) → Uncounted p p
uncounted p = record { own = refl; many = refl; given = λ c. refl }

pub aside : (p : Peer) → Aside p p
aside p = record { slots = refl; names = refl; counters = uncounted p }

pub aside_waiting : (p q : Peer) → q.outgoing ≡ p.outgoing → used_out q.lists ≡ used_out p.lists → waiting q ≡ waiting p
aside_waiting p q slots names =
    ap₂ (λ (os : List Outgoing) (ss : List ℕ). map (λ (s : ℕ). item_of (get_or os s no_outgoing)) ss) slots names

behind_aside : (p : Peer) (g : Result ⊤ Refusal) (rest : Outcome Peer) → Aside p rest.after → Aside p (behind g p rest).after
behind_aside p g rest k = behind_has g p rest (λ (o : Outcome Peer). Aside p o.after) (λ why. aside p) (λ e. k)

abbrev gate : Settings → Peer → Result ⊤ Refusal
gate s p = gate_of (fits s lent.Nothing) (sound p)

pub state_aside : (s : Settings) (state : ℕ) (p : Peer) → Aside p (sets_state s state p).after
state_aside s state p = behind_aside p (gate s p) (sets_state_sound state p) (go (leb state last_state))
  where
    go : (b : Bool) → Aside p (pick b (finished (stated state p)) (unchanged OutOfRange p)).after
    go true = record { slots = refl; names = refl; counters = record { own = refl; many = refl; given = λ c. refl } }
    go false = aside p

-- begin names none of the slots and lists either
pub begin_leaves : (s : Settings) (mtu many : ℕ) (p : Peer) → waiting (begins s mtu many p).after ≡ waiting p
begin_leaves s mtu many p =
    behind_has (gate s p) p (begins_sound mtu many p) (λ (o : Outcome Peer). waiting o.after ≡ waiting p) (λ why. refl)
    (λ e. go (begin_fits mtu many p.standing.channels))
  where
    go : (b : Bool) → waiting (pick b (finished (begun mtu many p)) (unchanged OutOfRange p)).after ≡ waiting p
    go true = refl
    go false = refl

pub throttle_aside : (s : Settings) (sample : ℕ) (p : Peer) → Aside p (throttles s sample p).after
throttle_aside s sample p =
    behind_aside p (gate s p) (throttles_sound sample p)
    (record { slots = refl; names = refl; counters = record { own = refl; many = refl; given = λ c. refl } })

pub receive_aside : (s : Settings) (p : Peer) → Aside p (receives s p).after
receive_aside s p = behind_aside p (gate s p) (receives_sound p) (go (first (in_items p.lists.dispatched)))
  where
    go : (f : Option ℕ) → Aside p (receives_from f p).after
    go None = aside p
    go (Some n) = record { slots = refl; names = refl; counters = record { own = refl; many = refl; given = λ c. refl } }

-- ---- a channel that keeps its outgoing number
pub set_given : (cs : List Channel) (i : ℕ) (d : Channel) → d.outgoing_reliable ≡ given_on cs i → (c : ℕ) → given_on (set cs i d) c ≡ given_on cs c
set_given cs i d e c = part_set (λ (x : Channel). x.outgoing_reliable) cs i d no_channel c e

-- dispatch changes dispatched alone of the lists, and nothing outgoing of the channel
pub record Inward (c : Channel) (l : Lists) (d : Dispatched) : Type 0 where
  pub names : used_out d.lists ≡ used_out l
  pub given : d.channel.outgoing_reliable ≡ c.outgoing_reliable

pub by_dispatch : (slots : List Incoming) (c : Channel) (l : Lists) (g : Unsequenced) → Inward c l (dispatched_by slots c l g)
by_dispatch slots c l g =
    let n = ready_count slots (in_items c.held) c.incoming_reliable.0 in
    let d = moved_on n (ready_last slots (in_items c.held) c.incoming_reliable.0) c l g in
    go d (record { names = refl; given = refl }) (eqb n 0)
  where
    go : (d : Dispatched) → Inward c l d → (b : Bool) → Inward c l (pick b (record { channel = c; lists = l; unsequenced = g }) d)
    go d k true = record { names = refl; given = refl }
    go d k false = k

pub dispatch_aside : (s : Settings) (channel : ℕ) (p : Peer) → Aside p (dispatches s channel p).after
dispatch_aside s channel p =
    let k = by_dispatch p.incoming (get_or p.channels channel no_channel) p.lists p.unsequenced in
    behind_aside p (gate s p) (dispatches_sound channel p)
    (behind_aside p (dispatch_gate channel p.standing) (finished (dispatched_on channel p))
    (record {
      slots = refl;
      names = k.names;
      counters = record { own = refl; many = refl; given = set_given p.channels channel _ k.given };
    }))

-- ---- arrivals
module _ (s : Settings) (a : Arrival) (datagram : List ℕ) (x : State) where
  pub unsequenced_aside : (group : Group) → Aside x.peer (arrives_unsequenced s a group datagram x).after.peer
  unsequenced_aside group =
      unsequenced_has s a group datagram x (λ (o : Outcome State). Aside x.peer o.after.peer) (λ why. aside x.peer)
      (λ good e. record { slots = refl; names = refl; counters = record { own = refl; many = refl; given = λ c. refl } })
      (λ good e. record { slots = refl; names = refl; counters = record { own = refl; many = refl; given = λ c. refl } })
      (λ n good long may e. record { slots = refl; names = refl; counters = record { own = refl; many = refl; given = λ c. refl } })

  pub reliable_aside : Aside x.peer (arrives_reliable s a datagram x).after.peer
  reliable_aside =
      reliable_has s a datagram x (λ (o : Outcome State). Aside x.peer o.after.peer) (λ why. aside x.peer) (λ good e. aside x.peer)
      (λ n good long may e. held n)
    where
      held : (n : ℕ) → Aside x.peer (reliable_after (fate.Stored n) a datagram x).peer
      held n =
          let k = by_dispatch (set x.peer.incoming n (arrived_slot a)) (held_with x.peer.incoming (channel_of a x.peer) a.number.0 n)
          x.peer.lists x.peer.unsequenced in
          record {
            slots = refl;
            names = k.names;
            counters = record { own = refl; many = refl; given = set_given x.peer.channels a.channel _ k.given };
          }
