-- What most calls leave as it was: the base and the words of the window, which only reset and the unsequenced arrival change; and the waiting
-- total, which only reset, an arrival that is stored and a receive change.
use Rattle.std.specs.Prelude.{ℕ, ◌+◌, ◌≡◌, ◌⊎◌}
use Rattle.numbers.specs.Answers.{Answer}
use Rattle.peer.specs.Outcome.{Outcome}
use Rattle.peer.specs.declared.Peer.{Peer}
use Rattle.receive.specs.Calls.{packet, block}

pub record SameWindow (before after : Peer) : Type 0 where
  pub base : after.unsequenced.incoming ≡ before.unsequenced.incoming
  pub words : after.unsequenced.words ≡ before.unsequenced.words

pub record Steady (before after : Peer) : Type 0 where
  pub window : SameWindow before after
  pub total : after.waiting.total ≡ before.waiting.total

-- a packet or a block (C-11) was handed out, and so it was replied
abbrev pub HandedOut : Answer → ℕ → ℕ → ℕ → Type 0
HandedOut w channel cell length = (w ≡ packet channel cell length) ⊎ (w ≡ block channel cell length)

-- the total after a receive: as it was, or lower by the length that it replies
pub data Lowers (before : Peer) (o : Outcome Peer) : Type 0 where
  stays : o.after.waiting.total ≡ before.waiting.total → ((channel cell length : ℕ) → HandedOut o.answer channel cell length → ⊥)
      → Lowers before o
  lowers : (channel cell length : ℕ) → HandedOut o.answer channel cell length → before.waiting.total ≡ length + o.after.waiting.total
      → Lowers before o
