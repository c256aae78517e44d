-- Soundness through a ping: done, the record is sound, and a sound one stays so.
-- The argument: a ping is the peer's own, and its byte names its fields, so that setup's laws keep soundness.
use mathlib.Core.Path.{◌≡◌, refl}
use mathlib.Core.Bool.{true}
use Rattle.record.proofs.ChannelLaws.{itself_on}
use Rattle.peer.specs.Damage.{sound}
use Rattle.peer.specs.Outcome.{Outcome, finished}
use Rattle.peer.specs.Sounds.{Whole, Sounds}
use Rattle.peer.specs.declared.settings.Settings.{Settings}
use Rattle.peer.specs.declared.Peer.{Peer}
use Rattle.peer.proofs.Gates.{behind_has}
use Rattle.peer.proofs.Sound.{gated_sounds}
use Rattle.setup.specs.Queueing.{room, queued}
use Rattle.setup.proofs.Sound.{queued-sound, queued_whole}
use Rattle.setup.specs.Pings.{ping_piece, ping_gate, pings_sound, pings}

module _ (p : Peer) (w : Whole p) where
  ping_keeps : sound p ≡ true → sound (pings_sound p).after ≡ true
  ping_keeps h =
      behind_has (ping_gate p.standing (room p)) p (finished (queued ping_piece p)) (λ (o : Outcome Peer). sound o.after ≡ true) (λ why. h)
      (λ e. queued-sound ping_piece p w h (itself_on p.standing.channels) refl)

  ping_whole : Whole (pings_sound p).after
  ping_whole =
      behind_has (ping_gate p.standing (room p)) p (finished (queued ping_piece p)) (λ (o : Outcome Peer). Whole o.after) (λ why. w)
      (λ e. queued_whole ping_piece p w)

pub ping_sounds : (s : Settings) → Sounds (pings s)
ping_sounds s = gated_sounds s pings_sound (λ p w h. ping_keeps p w h) (λ p w. ping_whole p w)
