-- What an arrival does to slots, store and waiting total: nothing; or, stored, it takes one slot that was free, puts its payload into that slot's cell,
-- byte for byte, and adds its length once. Dispatched only grows at its end. The second store is no packet's (C-11).
use Rattle.std.specs.Prelude.{ℕ, ◌+◌, ◌*◌, ◌≤◌, ◌<◌, ◌≡◌, List, ◌++◌, ◌⊎◌, take, drop, get_or, Some}
use Rattle.std.proofs.Math.ListN as list
use Rattle.record.specs.Lists.{in_items}
use Rattle.record.specs.Sizes.{cell}
use Rattle.record.specs.Fresh.{no_incoming}
use Rattle.peer.specs.Outcome.{State, Outcome}
use Rattle.peer.specs.declared.Peer.{Peer}
use Rattle.arrival.specs.Storing.{free_slot}
use Rattle.arrival.specs.Arrivals.{stored, arrived_slot}
use Rattle.arrival.specs.declared.Arrival.{Arrival}

pub record Stores (a : Arrival) (datagram : List ℕ) (before after : State) : Type 0 where
  pub slot : ℕ
  pub free : free_slot before.peer.lists before.peer.channels before.peer.standing.channels ≡ Some slot
  pub holds : get_or after.peer.incoming slot no_incoming ≡ arrived_slot a
  pub slots : (k : ℕ) → (k ≡ slot → ⊥) → get_or after.peer.incoming k no_incoming ≡ get_or before.peer.incoming k no_incoming
  pub payload : take a.length (drop (slot * cell) after.store) ≡ take a.length (drop a.place datagram)
  pub bytes : (i : ℕ) → (i < slot * cell) ⊎ (slot * cell + a.length ≤ i) → get_or after.store i 0 ≡ get_or before.store i 0
  pub length : list.length after.store ≡ list.length before.store
  pub total : after.peer.waiting.total ≡ before.peer.waiting.total + a.length
  pub second : after.second ≡ before.second

pub record Leaves (before after : State) : Type 0 where
  pub slots : after.peer.incoming ≡ before.peer.incoming
  pub store : after.store ≡ before.store
  pub second : after.second ≡ before.second
  pub total : after.peer.waiting.total ≡ before.peer.waiting.total

pub data Arrives (a : Arrival) (datagram : List ℕ) (before : State) (o : Outcome State) : Type 0 where
  leaves : Leaves before o.after → (o.answer ≡ stored → ⊥) → Arrives a datagram before o
  stores : Stores a datagram before o.after → o.answer ≡ stored → Arrives a datagram before o

-- dispatched as it was, and what joined it
pub record Adds (before after : Peer) : Type 0 where
  pub joined : List ℕ
  pub is : in_items after.lists.dispatched ≡ in_items before.lists.dispatched ++ joined
