-- What is next is delivered. In state 5, with its length in bounds and room: a reliable arrival of the next number, which no unfinished block holds, is stored and
-- joins dispatched at once, with all that was held behind it without a gap; an unsequenced arrival whose group is near and not marked is stored.
use Rattle.std.specs.Prelude.{ℕ, suc, ◌<◌, ◌≡◌, true, false, List, ◌⊎◌, length, None}
use Rattle.numbers.specs.Counters.{step}
use Rattle.numbers.specs.declared.counters.Group.{Group}
use Rattle.record.specs.Sizes.{store_length}
use Rattle.peer.specs.Damage.{sound}
use Rattle.peer.specs.Settings.{fit_settings}
use Rattle.peer.specs.States.{connected}
use Rattle.peer.specs.Outcome.{State, Outcome}
use Rattle.peer.specs.declared.settings.Settings.{Settings}
use Rattle.peer.specs.declared.defaults.Kept.{Kept}
use Rattle.arrival.specs.Storing.{free_slot}
use Rattle.window.specs.Window.{first, distant, marked}
use Rattle.arrival.specs.Arrivals.{names, is_whole, stored}
use Rattle.arrival.specs.declared.Arrival.{Arrival}
use Rattle.arrive_unsequenced.specs.Calls.{send_unsequenced}
use Rattle.arrive_reliable.specs.Calls.{send_reliable}
use Rattle.link.specs.Runs.{Asked, comes_to, run, reset_state}
use Rattle.link_in.specs.declared.calls.Call.TheVariants as inw
use Rattle.link.specs.declared.calls.Call.TheVariants as call
use Rattle.promises.specs.History.{base_of}
use Rattle.promises.specs.Repeats.{unsequencedly}
use Rattle.promises.specs.Reports.{numbers_joined, series}
use Rattle.arrive_reliable.specs.Holding.{holds}
use Rattle.promises.specs.Held.{last_in, held_in, NoneReady, AllNumbered, GivenOnce}

-- nothing of an arrival's own, nor of the room for it, is in its way: settings and store fit, its byte names its command, its channel is there, the
-- state is 5, its length is in bounds, the waiting total is below the setting and a slot is free
pub record Fits (command : ℕ) (s : Settings) (a : Arrival) (datagram : List ℕ) (x : State) : Type 0 where
  pub settings : fit_settings s ≡ true
  pub store : length x.store ≡ store_length
  pub byte : names a.byte command ≡ true
  pub on : a.channel < x.peer.standing.channels
  pub state : x.peer.standing.state ≡ connected
  pub whole : is_whole a s (length datagram) ≡ true
  pub below : x.peer.waiting.total < s.waiting
  pub slot : free_slot x.peer.lists x.peer.channels x.peer.standing.channels ≡ None → ⊥

-- a reliable arrival with its settings and its datagram
abbrev pub reliably : Settings → Arrival → List ℕ → Asked
reliably s a datagram = record { settings = s; call = call.Inward (inw.ReliableArrival a); datagram = datagram }

-- it is stored; it and what follows it without a gap join dispatched; and nothing that is ready is left
pub record Delivers (channel : ℕ) (x : State) (o : Outcome State) : Type 0 where
  pub answer : o.answer ≡ stored
  pub more : ℕ
  pub joined : numbers_joined x o.after ≡ series (last_in x channel) (suc more)
  pub left : NoneReady o.after channel

abbrev pub NextDelivered : Type 0
NextDelivered =
    (t : Settings) (kept : Kept) (store second : List ℕ) (calls : List Asked) (s : Settings) (a : Arrival) (datagram : List ℕ)
    → let x = reset_state t.mtu kept store second in
    fit_settings t ≡ true
    → AllNumbered calls
    → GivenOnce calls x
    → let y = (run calls x).end in
    Fits send_reliable s a datagram y
    → a.number.0 ≡ step (last_in y a.channel)
    → holds y.peer.incoming (held_in y a.channel) a.number.0 ≡ false
    → Delivers a.channel y (comes_to (reliably s a datagram) y)

-- of any sound record: near, and in another window than the base's or not marked
abbrev pub NearStored : Type 0
NearStored =
    (s : Settings) (a : Arrival) (g : Group) (datagram : List ℕ) (x : State) → sound x.peer ≡ true
    → Fits send_unsequenced s a datagram x
    → distant (base_of x) g.0 ≡ false
    → (first g.0 ≡ base_of x → ⊥) ⊎ (marked x.peer.unsequenced.words g.0 ≡ false)
    → (comes_to (unsequencedly s a g datagram) x).answer ≡ stored
