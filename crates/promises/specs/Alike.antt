-- What does not count in comparing records makes no difference: of two records that are the same, every call gives the same answer and leaves the same
-- stores, and records that are the same again.
use Rattle.std.specs.Prelude.{◌≡◌, List, ℕ}
use Rattle.laws.specs.Same.{Same}
use Rattle.peer.specs.Sounds.{Whole}
use Rattle.peer.specs.Outcome.{State, Outcome}
use Rattle.peer.specs.declared.settings.Settings.{Settings}
use Rattle.peer.specs.declared.Peer.{Peer}
use Rattle.link.specs.Steps.{calls}
use Rattle.link.specs.declared.calls.Call.{Call}

pub record Alike (o r : Outcome State) : Type 0 where
  pub answer : o.answer ≡ r.answer
  pub store : o.after.store ≡ r.after.store
  pub second : o.after.second ≡ r.after.second
  pub same : Same o.after.peer r.after.peer

-- the arrays of the program have their lengths (Whole); here a list may have any
abbrev pub RespectsSame : Type 0
RespectsSame =
    (s : Settings) (k : Call) (datagram store second : List ℕ) (p q : Peer) → Whole p → Whole q → Same p q
    → Alike (calls s k datagram (record { peer = p; store = store; second = second })) (calls s k datagram (record { peer = q; store = store; second = second }))
