-- What stands along a run from a reset: the record is sound, the waiting total is what was stored and not yet received, and what is in transit is what the
-- packets in sent carry.
use Rattle.std.specs.Prelude.{ℕ, ◌+◌, ◌%◌, ◌^◌, ◌<◌, ◌≡◌, Bool, true, List, [], ◌∷◌, eqb, get_or, None, Option, Some}
use Rattle.numbers.specs.Pick.{pick}
use Rattle.numbers.specs.Answers.{Answer, numbers_of}
use Rattle.record.specs.Lists.{out_items}
use Rattle.peer.specs.Damage.{sound}
use Rattle.peer.specs.Settings.{fit_settings}
use Rattle.peer.specs.Outcome.{State}
use Rattle.peer.specs.declared.settings.Settings.{Settings}
use Rattle.peer.specs.declared.defaults.Kept.{Kept}
use Rattle.laws.specs.Transit.{limit, loads}
use Rattle.arrive_fragment.specs.Pieces.{unfinished_on}
use Rattle.link.specs.Runs.{Asked, comes_to, says_one, says_two, run, reset_state}
use Rattle.link_out.specs.declared.calls.Call.{Call as Outward}
use Rattle.link_out.specs.declared.calls.Call.TheVariants as out
use Rattle.link_in.specs.declared.calls.Call.TheVariants as inw
use Rattle.link.specs.declared.calls.Call.{Call}
use Rattle.link.specs.declared.calls.Call.TheVariants as call

-- a run from a reset stays sound
abbrev pub StaysSound : Type 0
StaysSound =
    (s : Settings) (kept : Kept) (store second : List ℕ) (calls : List Asked) → fit_settings s ≡ true
    → sound (run calls (reset_state s.mtu kept store second)).end.peer ≡ true

-- and 13 is never answered in it
abbrev pub Undamaged : List Answer → Type 0
Undamaged [] = Unit {0}
Undamaged (a ∷ rest) = (a.number ≡ 13 → ⊥) × Undamaged rest

abbrev pub NeverDamaged : Type 0
NeverDamaged =
    (s : Settings) (kept : Kept) (store second : List ℕ) (calls : List Asked) → fit_settings s ≡ true
    → Undamaged (run calls (reset_state s.mtu kept store second)).answers

-- the lengths stored and the lengths received since the latest reset
pub record Tally : Type 0 where
  pub stored : ℕ
  pub received : ℕ

abbrev pub fresh_tally : Tally
fresh_tally = record { stored = 0; received = 0 }

abbrev pub stores : ℕ → Answer → Tally → Tally
stores length a t = pick (says_one a) (record { stored = t.stored + length; received = t.received }) t

-- C-11: "its total counts as waiting from the first piece"; a later piece of an unfinished block adds nothing
abbrev pub begins : Option ℕ → ℕ → Answer → Tally → Tally
begins None total a t = stores total a t
begins (Some n) total a t = t

-- a packet or a block was handed out
abbrev pub hands_out : Answer → Bool
hands_out a = pick (says_one a) true (says_two a)

-- what a call that answers so, from this state, adds
abbrev pub counts : Call → State → Answer → Tally → Tally
counts call.Reset x a t = pick (eqb a.number 0) fresh_tally t
counts (call.Inward (inw.UnsequencedArrival arrival group)) x a t = stores arrival.length a t
counts (call.Inward (inw.ReliableArrival arrival)) x a t = stores arrival.length a t
counts (call.Inward (inw.FragmentArrival piece)) x a t = begins (unfinished_on piece x.peer) piece.fragment.total a t
counts (call.Inward inw.Receive) x a t = pick (hands_out a) (record { stored = t.stored; received = t.received + get_or (numbers_of a) 3 0 }) t
counts (call.Begin mtu channels) x a t = t
counts (call.SetState state) x a t = t
counts (call.Outward c) x a t = t
counts (call.Inward (inw.Dispatch channel)) x a t = t

unfoldable pub tallied : List Asked → State → Tally → Tally
tallied [] x t = t
tallied (a ∷ rest) x t = let o = comes_to a x in tallied rest o.after (counts a.call x o.answer t)

-- "From a reset, that total equals lengths stored less lengths received."
abbrev pub Waits : Type 0
Waits =
    (mtu : ℕ) (kept : Kept) (store second : List ℕ) (calls : List Asked) → let x = reset_state mtu kept store second in
    let t = tallied calls x fresh_tally in
    (run calls x).end.peer.waiting.total + t.received ≡ t.stored

-- a setup's piece length has 16 bits, as its type in the program says; here a number may be any
abbrev pub ShortPiece : Outward → Type 0
ShortPiece (out.Setup x) = x.length < limit
ShortPiece out.Ping = Unit {0}
ShortPiece (out.Send channel length flags) = Unit {0}
ShortPiece (out.SendStep queue time) = Unit {0}
ShortPiece (out.Acknowledgement channel number sent clock) = Unit {0}
ShortPiece (out.TimeoutCheck clock) = Unit {0}
ShortPiece (out.Throttle sample) = Unit {0}

abbrev pub Short : Call → Type 0
Short (call.Outward c) = ShortPiece c
Short (call.Inward c) = Unit {0}
Short call.Reset = Unit {0}
Short (call.Begin mtu channels) = Unit {0}
Short (call.SetState state) = Unit {0}

abbrev pub AllShort : List Asked → Type 0
AllShort [] = Unit {0}
AllShort (a ∷ rest) = Short a.call × AllShort rest

-- what is in transit is the sum of the piece lengths of the packets in sent, modulo 2^32
abbrev pub InTransit : Type 0
InTransit =
    (mtu : ℕ) (kept : Kept) (store second : List ℕ) (calls : List Asked) → AllShort calls
    → let p = (run calls (reset_state mtu kept store second)).end.peer in
    p.flow.transit ≡ loads p.outgoing (out_items p.lists.sent) % 2 ^ 32
