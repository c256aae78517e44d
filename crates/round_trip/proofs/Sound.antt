-- Soundness through the throttle: it looks at none of the throttle's numbers, so a sound record stays sound, and a whole one whole.
use Rattle.std.proofs.Common.{◌≡◌, ℕ, refl, ◌∙◌}
use Rattle.peer.specs.Damage.{sound}
use Rattle.peer.specs.Sounds.{Whole, Sounds}
use Rattle.peer.specs.declared.settings.Settings.{Settings}
use Rattle.peer.specs.declared.Peer.{Peer}
use Rattle.peer.proofs.Sound.{gated_sounds}
use Rattle.round_trip.specs.Calls.{throttles_sound, throttles}

throttle_same : (sample : ℕ) (p : Peer) → sound (throttles_sound sample p).after ≡ sound p
unfolding sound
throttle_same sample p = refl

throttle_whole : (sample : ℕ) (p : Peer) → Whole p → Whole (throttles_sound sample p).after
throttle_whole sample p l = record { channels = l.channels; outgoing = l.outgoing; incoming = l.incoming }

pub throttle_sounds : (s : Settings) (sample : ℕ) → Sounds (throttles s sample)
throttle_sounds s sample = gated_sounds s (throttles_sound sample) (λ p l h. throttle_same sample p ∙ h) (throttle_whole sample)
