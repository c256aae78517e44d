-- What acknowledgement, throttle and timeout check leave as it was: the whole incoming side, with base and words of the window, dispatched, the waiting
-- total and every number of the channels.
use Rattle.std.specs.Prelude.{◌≡◌}
use Rattle.peer.specs.declared.Peer.{Peer}

pub record Untouched (before after : Peer) : Type 0 where
  pub unsequenced : after.unsequenced ≡ before.unsequenced
  pub dispatched : after.lists.dispatched ≡ before.lists.dispatched
  pub waiting : after.waiting ≡ before.waiting
  pub channels : after.channels ≡ before.channels
  pub incoming : after.incoming ≡ before.incoming
