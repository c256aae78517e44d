-- C-11: what the arrival of a piece does to slots, marks, second store and waiting total: nothing; or, stored, it begins a block in a slot that was free, in a second
-- store of zeros and with no mark before it, and adds the block's total once; or it goes on with its channel's unfinished block and adds nothing. Its bytes
-- go to its offset, its mark is set, one less remains. And which parts of the record it leaves, whatever its answer.
use Rattle.std.specs.Prelude.{ℕ, ◌+◌, ◌≡◌, true, false, List, get_or, None, Some}
use Rattle.record.specs.Fresh.{no_incoming, no_channel}
use Rattle.record.specs.Marks.{no_marks, piece_marked, with_piece}
use Rattle.blocks.specs.Blocks.{like_first, block_of, one_less}
use Rattle.peer.specs.Outcome.{State, Outcome}
use Rattle.peer.specs.declared.Peer.{Peer}
use Rattle.arrival.specs.Storing.{free_slot}
use Rattle.arrival.specs.Arrivals.{stored}
use Rattle.arrive_fragment.specs.Pieces.{unfinished_on}
use Rattle.arrive_fragment.specs.Calls.{with_bytes, cleared}
use Rattle.arrive_fragment.specs.declared.Piece.{Piece}

pub record Opens (a : Piece) (datagram : List ℕ) (before after : State) : Type 0 where
  pub slot : ℕ
  pub none : unfinished_on a before.peer ≡ None
  pub free : free_slot before.peer.lists before.peer.channels before.peer.standing.channels ≡ Some slot
  pub holds : get_or after.peer.incoming slot no_incoming ≡ one_less (block_of a.byte a.channel a.start a.fragment)
  pub slots : (k : ℕ) → (k ≡ slot → ⊥) → get_or after.peer.incoming k no_incoming ≡ get_or before.peer.incoming k no_incoming
  pub unmarked : before.peer.marks ≡ no_marks
  pub marks : after.peer.marks ≡ with_piece no_marks a.fragment.number
  pub store : after.store ≡ before.store
  pub second : after.second ≡ with_bytes a datagram (cleared before.second)
  pub total : after.peer.waiting.total ≡ before.peer.waiting.total + a.fragment.total

pub record Continues (a : Piece) (datagram : List ℕ) (before after : State) : Type 0 where
  pub slot : ℕ
  pub own : unfinished_on a before.peer ≡ Some slot
  pub like : like_first a.fragment (get_or before.peer.incoming slot no_incoming) ≡ true
  pub unmarked : piece_marked before.peer.marks a.fragment.number ≡ false
  pub holds : get_or after.peer.incoming slot no_incoming ≡ one_less (get_or before.peer.incoming slot no_incoming)
  pub slots : (k : ℕ) → (k ≡ slot → ⊥) → get_or after.peer.incoming k no_incoming ≡ get_or before.peer.incoming k no_incoming
  pub marks : after.peer.marks ≡ with_piece before.peer.marks a.fragment.number
  pub store : after.store ≡ before.store
  pub second : after.second ≡ with_bytes a datagram before.second
  pub total : after.peer.waiting.total ≡ before.peer.waiting.total

pub data Pieces (a : Piece) (datagram : List ℕ) (before : State) (o : Outcome State) : Type 0 where
  leaves : o.after ≡ before → (o.answer ≡ stored → ⊥) → Pieces a datagram before o
  opens : Opens a datagram before o.after → o.answer ≡ stored → Pieces a datagram before o
  continues : Continues a datagram before o.after → o.answer ≡ stored → Pieces a datagram before o

-- what an arrival on a channel leaves: all but the incoming pool with its marks and lists, the waiting total, that channel's incoming numbers and list, flags
pub record Inbound (channel : ℕ) (before after : Peer) : Type 0 where
  pub ids : after.ids ≡ before.ids
  pub standing : after.standing ≡ before.standing
  pub bandwidth : after.bandwidth ≡ before.bandwidth
  pub totals : after.totals ≡ before.totals
  pub times : after.times ≡ before.times
  pub loss : after.loss ≡ before.loss
  pub throttling : after.throttling ≡ before.throttling
  pub limits : after.limits ≡ before.limits
  pub trips : after.trips ≡ before.trips
  pub flow : after.flow ≡ before.flow
  pub outgoing : after.outgoing ≡ before.outgoing
  pub sent : after.lists.sent ≡ before.lists.sent
  pub send_reliable : after.lists.send_reliable ≡ before.lists.send_reliable
  pub waits : after.lists.outgoing ≡ before.lists.outgoing
  pub base : after.unsequenced.incoming ≡ before.unsequenced.incoming
  pub group : after.unsequenced.outgoing ≡ before.unsequenced.outgoing
  pub words : after.unsequenced.words ≡ before.unsequenced.words
  pub given : (c : ℕ) → (get_or after.channels c no_channel).outgoing_reliable ≡ (get_or before.channels c no_channel).outgoing_reliable
  pub given_unreliable : (c : ℕ) → (get_or after.channels c no_channel).outgoing_unreliable ≡ (get_or before.channels c no_channel).outgoing_unreliable
  pub others : (c : ℕ) → (c ≡ channel → ⊥) → get_or after.channels c no_channel ≡ get_or before.channels c no_channel
