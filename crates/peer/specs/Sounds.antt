-- What every call on the record promises of soundness.
use Rattle.std.specs.Prelude.{◌≡◌, true, length}
use Rattle.record.specs.Lists as pools
use Rattle.record.specs.Sizes as sizes
use Rattle.peer.specs.Damage.{sound}
use Rattle.peer.specs.Outcome.{Outcome}
use Rattle.peer.specs.declared.Peer.{Peer}

-- channels and pools have their length, as in every record of the program: an array is a list here, and a list may be short
pub record Whole (p : Peer) : Type 0 where
  pub channels : length p.channels ≡ sizes.channels
  pub outgoing : length p.outgoing ≡ pools.outgoing
  pub incoming : length p.incoming ≡ pools.incoming

-- Of a whole record: done, it is sound; a sound one stays so, whatever the answer; and it stays whole.
pub record Sounds (call : Peer → Outcome Peer) : Type 0 where
  pub done : (p : Peer) → Whole p → (call p).answer.number ≡ 0 → sound (call p).after ≡ true
  pub keeps : (p : Peer) → Whole p → sound p ≡ true → sound (call p).after ≡ true
  pub whole : (p : Peer) → Whole p → Whole (call p).after
