-- Nothing that is ready stays held: after any run from a reset in which each number is given once, on each channel below the count, nothing that is held is complete
-- and next, and what is held stands in the order of its distance from the channel's last number, each behind the last number of the one before.
-- C-11: a sender that uses a number twice can stall a channel, here and in the source; so "each number once" is asked.
use Rattle.std.specs.Prelude.{ℕ, ◌+◌, ◌-◌, ◌<◌, ◌≡◌, Bool, true, not, List, [], ◌∷◌, eqb, leb, get_or, None, Option, Some}
use Rattle.numbers.specs.Pick.{pick}
use Rattle.numbers.specs.Answers.{Answer}
use Rattle.record.specs.Lists.{in_items}
use Rattle.record.specs.Fresh.{no_channel, no_incoming}
use Rattle.record.specs.Damage.{all}
use Rattle.record.specs.declared.groups.Incoming.{Incoming}
use Rattle.record.specs.declared.groups.Channel.{Channel}
use Rattle.peer.specs.Outcome.{State}
use Rattle.peer.specs.declared.defaults.Kept.{Kept}
use Rattle.dispatch.specs.Dispatching.{follows}
use Rattle.arrive_reliable.specs.Holding.{number_distance, number_at}
use Rattle.arrive_fragment.specs.Pieces.{unfinished_on}
use Rattle.link.specs.Runs.{Asked, comes_to, says_one, run, reset_state}
use Rattle.link_in.specs.declared.calls.Call.TheVariants as inw
use Rattle.link.specs.declared.calls.Call.{Call}
use Rattle.link.specs.declared.calls.Call.TheVariants as call

abbrev pub channel_in : State → ℕ → Channel
channel_in x channel = get_or x.peer.channels channel no_channel

-- the last number that joined dispatched on a channel
abbrev pub last_in : State → ℕ → ℕ
last_in x channel = (channel_in x channel).incoming_reliable.0

-- the slots that a channel holds
abbrev pub held_in : State → ℕ → List ℕ
held_in x channel = in_items (channel_in x channel).held

-- how many numbers each takes: a block as many as it has pieces
abbrev pub span_at : List Incoming → ℕ → ℕ
span_at slots s = let k = (get_or slots s no_incoming).fragments in pick (eqb k 0) 1 k

-- the slots stand in order: each begins behind distance n, and the next behind its last number
unfoldable pub Rising : List Incoming → ℕ → ℕ → List ℕ → Type 0
Rising slots last n [] = Unit {0}
Rising slots last n (s ∷ ss) =
    let d = number_distance last (number_at slots s) in (n < d) × Rising slots last (d + (span_at slots s - 1)) ss

pub record NoneReady (x : State) (channel : ℕ) : Type 0 where
  -- none is complete and next
  pub none : all (λ (s : ℕ). not (follows (last_in x channel) (get_or x.peer.incoming s no_incoming))) (held_in x channel) ≡ true
  pub order : Rising x.peer.incoming (last_in x channel) 0 (held_in x channel)

-- a reliable number has 16 bits, as its type in the program says; here a number may be any
abbrev pub Numbered : Call → Type 0
Numbered (call.Inward (inw.ReliableArrival a)) = a.number.0 < 65536
Numbered (call.Inward (inw.FragmentArrival a)) = a.start.0 < 65536
Numbered (call.Inward (inw.UnsequencedArrival a group)) = Unit {0}
Numbered (call.Inward (inw.Dispatch channel)) = Unit {0}
Numbered (call.Inward inw.Receive) = Unit {0}
Numbered call.Reset = Unit {0}
Numbered (call.Begin mtu channels) = Unit {0}
Numbered (call.SetState state) = Unit {0}
Numbered (call.Outward c) = Unit {0}

abbrev pub AllNumbered : List Asked → Type 0
AllNumbered [] = Unit {0}
AllNumbered (a ∷ rest) = Numbered a.call × AllNumbered rest

-- k numbers from distance d on, and j from distance e on, have none in common
abbrev pub is_apart : ℕ → ℕ → ℕ → ℕ → Bool
is_apart d k e j = pick (leb (d + k) e) true (leb (e + j) d)

-- none of the k numbers from number n on is taken by one that the channel holds
abbrev pub is_free : State → ℕ → ℕ → ℕ → Bool
is_free x channel n k =
    let last = last_in x channel in
    let slots = x.peer.incoming in
    all (λ (s : ℕ). is_apart (number_distance last n) k (number_distance last (number_at slots s)) (span_at slots s)) (held_in x channel)

-- a piece that begins a block
abbrev pub Begins : Option ℕ → Type 0 → Type 0
Begins None A = A
Begins (Some n) A = Unit {0}

-- what is stored takes numbers that nothing held has taken
abbrev pub GivesFree : Call → State → Answer → Type 0
GivesFree (call.Inward (inw.ReliableArrival a)) x w = says_one w ≡ true → is_free x a.channel a.number.0 1 ≡ true
GivesFree (call.Inward (inw.FragmentArrival a)) x w =
    says_one w ≡ true → Begins (unfinished_on a x.peer) (is_free x a.channel a.start.0 a.fragment.count ≡ true)
GivesFree (call.Inward (inw.UnsequencedArrival a group)) x w = Unit {0}
GivesFree (call.Inward (inw.Dispatch channel)) x w = Unit {0}
GivesFree (call.Inward inw.Receive) x w = Unit {0}
GivesFree call.Reset x w = Unit {0}
GivesFree (call.Begin mtu channels) x w = Unit {0}
GivesFree (call.SetState state) x w = Unit {0}
GivesFree (call.Outward c) x w = Unit {0}

-- each number once
abbrev pub GivenOnce : List Asked → State → Type 0
GivenOnce [] x = Unit {0}
GivenOnce (a ∷ rest) x = let o = comes_to a x in GivesFree a.call x o.answer × GivenOnce rest o.after

abbrev pub NothingStuck : Type 0
NothingStuck =
    (mtu : ℕ) (kept : Kept) (store second : List ℕ) (calls : List Asked) (channel : ℕ) → let x = reset_state mtu kept store second in
    AllNumbered calls
    → GivenOnce calls x
    → let y = (run calls x).end in
    channel < y.peer.standing.channels → NoneReady y channel
