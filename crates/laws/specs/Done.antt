-- What a done send is: its commands set up in order, the slots that they took, what these hold, and that nothing else changed.
use Rattle.std.specs.Prelude.{ℕ, ◌+◌, ◌≤◌, ◌<◌, ◌≡◌, Bool, false, not, List, [], ◌∷◌, ◌++◌, length, get_or, take, replicate}
use Rattle.numbers.specs.Pick.{pick}
use Rattle.numbers.specs.Modulo.{sum}
use Rattle.numbers.specs.Counters.{step}
use Rattle.cells.specs.Runs.{has}
use Rattle.record.specs.Lists.{outgoing, out_items}
use Rattle.record.specs.declared.outgoing.OutList.{OutList}
use Rattle.record.specs.Fresh.{no_outgoing}
use Rattle.record.specs.Damage.{used_out}
use Rattle.record.specs.declared.groups.Lists.{Lists}
use Rattle.record.specs.declared.groups.Outgoing.{Outgoing}
use Rattle.peer.specs.declared.settings.Settings.{Settings}
use Rattle.peer.specs.declared.Peer.{Peer}
use Rattle.outbox.specs.Counting.{channel_at}
use Rattle.outbox.specs.Pieces.{to_reliable}
use Rattle.outbox.specs.declared.pieces.Piece.{Piece}
use Rattle.setup.specs.Taking.{Ready, frees, taken, filled, runs, answers}
use Rattle.packets.specs.Packets.{pieces, span, Part}
use Rattle.packets.specs.declared.Cut.{Cut}
use Rattle.packets.specs.declared.Start.{Start}
use Rattle.packets.specs.declared.Start.TheVariants as start

-- whether a packet's commands join send-reliable: its first one tells, for all of them
abbrev pub reliably : List Piece → Bool
reliably [] = false
reliably (x ∷ xs) = to_reliable x

abbrev pub joined : Bool → Lists → OutList
joined b l = pick b l.send_reliable l.outgoing

-- a done send of the commands xs
pub record Sent (s : Settings) (xs : List Piece) (p after : Peer) : Type 0 where
  pub ready : Ready xs p
  -- it is as many public setups in order, each of them done
  pub setups : after ≡ runs s xs p
  pub each : answers s xs p ≡ replicate (length xs) 0
  -- it takes the lowest free slots, which then stand at the end of their list in order
  pub slots : taken xs p ≡ take (length xs) (frees outgoing (used_out p.lists))
  pub ends : out_items (joined (reliably xs) after.lists) ≡ out_items (joined (reliably xs) p.lists) ++ taken xs p
  pub holds : (i : ℕ) → i < length xs → get_or after.outgoing (get_or (taken xs p) i 0) no_outgoing ≡ get_or (filled xs p) i no_outgoing
  -- the other lists and slots are as they were
  pub sent : after.lists.sent ≡ p.lists.sent
  pub other : joined (not (reliably xs)) after.lists ≡ joined (not (reliably xs)) p.lists
  pub dispatched : after.lists.dispatched ≡ p.lists.dispatched
  pub others : (i : ℕ) → has (taken xs p) i ≡ false → get_or after.outgoing i no_outgoing ≡ get_or p.outgoing i no_outgoing

-- the numbers that a slot bears; the header's is the reliable one
pub record Bears (o : Outgoing) (r u : ℕ) : Type 0 where
  pub reliable : o.reliable.0 ≡ r
  pub unreliable : o.unreliable.0 ≡ u
  pub header : o.command.number.0 ≡ r

-- the number of piece i: reliable ones count on from the channel's, past 65,535 to 0, and unreliable ones all bear the next
abbrev pub Numbered : Start → ℕ → Peer → ℕ → Outgoing → Type 0
Numbered (start.Reliable n) channel p i o = Bears o (sum 16 (step (channel_at p.channels channel).outgoing_reliable.0) i) 0
Numbered (start.Unreliable n) channel p i o =
    Bears o (channel_at p.channels channel).outgoing_reliable.0 (step (channel_at p.channels channel).outgoing_unreliable.0)

-- a cut packet's pieces: together its length, each where those before it end, all but the last of the fragment length, and their numbers
pub record Cutting (x : Cut) (p : Peer) : Type 0 where
  pub together : span (pieces x) ≡ x.length
  pub part : (i : ℕ) (d : Piece) → i < x.count → Part x i (get_or (pieces x) i d)
  pub full : (i : ℕ) (d : Piece) → i + 1 < x.count → (get_or (pieces x) i d).length ≡ x.fragment
  pub last : (i : ℕ) (d : Piece) → i + 1 ≡ x.count → (1 ≤ (get_or (pieces x) i d).length) × ((get_or (pieces x) i d).length ≤ x.fragment)
  pub numbers : (i : ℕ) → i < x.count → Numbered x.start x.channel p i (get_or (filled (pieces x) p) i no_outgoing)
