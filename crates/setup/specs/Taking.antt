-- The slots that setting up takes: the free ones of a pool in rising order, one for each piece in turn, and what each setup made.
use Rattle.std.specs.Prelude.{ℕ, zero, suc, ◌+◌, ◌≤◌, ◌≡◌, Bool, true, List, [], ◌∷◌, length, None, Option, Some}
use Rattle.numbers.specs.Pick.{pick, both}
use Rattle.command.specs.Rows.{names_fields}
use Rattle.record.specs.Channels.{on_channel}
use Rattle.record.specs.Lists.{outgoing}
use Rattle.cells.specs.Runs.{has}
use Rattle.cells.specs.Free.{lowest}
use Rattle.record.specs.Damage.{used_out}
use Rattle.peer.specs.Damage.{sound}
use Rattle.peer.specs.Sounds.{Whole}
use Rattle.peer.specs.declared.settings.Settings.{Settings}
use Rattle.peer.specs.declared.Peer.{Peer}
use Rattle.record.specs.declared.groups.Outgoing.{Outgoing}
use Rattle.setup.specs.Queueing.{room, made, queued}
use Rattle.setup.specs.Calls.{sets_up}
use Rattle.outbox.specs.declared.pieces.Piece.{Piece}

-- the numbers at which a test fails, of the `left` from k on
unfoldable pub free_from : (ℕ → Bool) → ℕ → ℕ → List ℕ
free_from f zero k = []
free_from f (suc left) k = pick (f k) (free_from f left (k + 1)) (k ∷ free_from f left (k + 1))

-- the slots of a pool of n that xs does not name, in rising order
abbrev pub frees : ℕ → List ℕ → List ℕ
frees n xs = free_from (has xs) n 0

-- the slots taken by pieces that are set up one after another
abbrev pub taken_in : Option ℕ → List ℕ → List ℕ
taken_in (Some s) rest = s ∷ rest
taken_in None rest = rest

unfoldable pub taken : List Piece → Peer → List ℕ
taken [] p = []
taken (x ∷ xs) p = taken_in (lowest outgoing (used_out p.lists)) (taken xs (queued x p))

-- what each of them made for its slot
unfoldable pub filled : List Piece → Peer → List Outgoing
filled [] p = []
filled (x ∷ xs) p = made x p ∷ filled xs (queued x p)

-- the public setups, one after another: the record then, and the numbers that they answered
unfoldable pub runs : Settings → List Piece → Peer → Peer
runs s [] p = p
runs s (x ∷ xs) p = runs s xs (sets_up s x p).after

unfoldable pub answers : Settings → List Piece → Peer → List ℕ
answers s [] p = []
answers s (x ∷ xs) p = (sets_up s x p).answer.number ∷ answers s xs (sets_up s x p).after

-- setup refuses none of these for its channel or its fields
unfoldable pub all_fit : ℕ → List Piece → Bool
all_fit count [] = true
all_fit count (x ∷ xs) = both (both (on_channel x.command.channel count) (names_fields x.command)) (all_fit count xs)

-- a record in which pieces can be set up one after another, none refused
pub record Ready (xs : List Piece) (p : Peer) : Type 0 where
  pub whole : Whole p
  pub good : sound p ≡ true
  pub fit : all_fit p.standing.channels xs ≡ true
  pub few : length xs ≤ room p
