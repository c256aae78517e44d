-- Acknowledgement, throttle and timeout check, for all inputs, refused or not, leave the incoming side as it was.
-- The argument: no rule names it; a removal changes one of the three outgoing lists.
use Rattle.std.specs.Prelude.{None, Option, Some}
use Prim.Native.Nat.{ℕ}
use mathlib.Core.Path.{refl}
use Rattle.peer.specs.Damage.{sound}
use Rattle.peer.specs.Outcome.{Outcome}
use Rattle.peer.specs.Gate.{fits, gate_of, on_record}
use Rattle.peer.specs.declared.settings.Settings.{Settings}
use Rattle.peer.specs.declared.Peer.{Peer}
use Rattle.peer.specs.declared.gate.Lent.TheVariants as lent
use Rattle.peer.proofs.Gates.{behind_has}
use Rattle.acknowledge.specs.Removal.{spot_of}
use Rattle.round_trip.specs.Calls.{throttles_sound, throttles}
use Rattle.acknowledge.specs.Calls.{heard_in, acknowledges_by, acknowledges_sound, acknowledges}
use Rattle.timeouts.specs.Calls.{checks_sound, checks}
use Rattle.laws.specs.Untouched.{Untouched}
use Rattle.laws.proofs.Acknowledged.{same_dispatched}

untouched : (p : Peer) → Untouched p p
untouched p = record { unsequenced = refl; dispatched = refl; waiting = refl; channels = refl; incoming = refl }

behind_untouched : (s : Settings) (p : Peer) (rest : Outcome Peer) → Untouched p rest.after → Untouched p (on_record s p rest).after
behind_untouched s p rest u =
    behind_has (gate_of (fits s lent.Nothing) (sound p)) p rest (λ (o : Outcome Peer). Untouched p o.after) (λ why. untouched p) (λ e. u)

pub throttle_untouched : (s : Settings) (sample : ℕ) (p : Peer) → Untouched p (throttles s sample p).after
throttle_untouched s sample p =
    behind_untouched s p (throttles_sound sample p)
    (record { unsequenced = refl; dispatched = refl; waiting = refl; channels = refl; incoming = refl })

by_untouched : (t : Option ℕ) (channel number clock : ℕ) (p : Peer) → Untouched p (acknowledges_by t channel number clock p).after
by_untouched None channel number clock p = untouched p
by_untouched (Some sample) channel number clock p =
    record {
      unsequenced = refl;
      dispatched = same_dispatched (spot_of p.outgoing number channel p.lists) p.lists;
      waiting = refl;
      channels = refl;
      incoming = refl;
    }

pub acknowledge_untouched : (s : Settings) (channel number sent clock : ℕ) (p : Peer)
    → Untouched p (acknowledges s channel number sent clock p).after
acknowledge_untouched s channel number sent clock p =
    behind_untouched s p (acknowledges_sound channel number sent clock p)
    (by_untouched (heard_in p.standing.state clock sent) channel number clock p)

pub check_untouched : (s : Settings) (clock : ℕ) (p : Peer) → Untouched p (checks s clock p).after
check_untouched s clock p =
    behind_untouched s p (checks_sound clock p)
    (record { unsequenced = refl; dispatched = refl; waiting = refl; channels = refl; incoming = refl })
