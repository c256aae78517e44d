-- What every call of the sending side leaves and keeps: window and waiting total, and a sound record sound.
-- The argument: each by its own law.
use Rattle.peer.specs.Sounds.{Sounds}
use Rattle.peer.specs.declared.settings.Settings.{Settings}
use Rattle.peer.specs.declared.Peer.{Peer}
use Rattle.setup.proofs.Sound.{setup_sounds}
use Rattle.send.proofs.Sound.{send_sounds}
use Rattle.setup.proofs.PingSound.{ping_sounds}
use Rattle.send_step.proofs.Sound.{step_sounds}
use Rattle.round_trip.proofs.Sound.{throttle_sounds}
use Rattle.laws.proofs.Acknowledged.{acknowledge_sounds}
use Rattle.laws.proofs.Checked.{check_sounds}
use Rattle.laws.specs.Steady.{Steady}
use Rattle.laws.proofs.Steady.{setup_steady, send_steady, ping_steady, step_steady, acknowledge_steady, check_steady, throttle_steady}
use Rattle.link_out.specs.Steps.{calls_out}
use Rattle.link_out.specs.declared.calls.Call.{Call}
use Rattle.link_out.specs.declared.calls.Call.TheVariants as out

pub outward_steady : (s : Settings) (c : Call) (p : Peer) → Steady p (calls_out s c p).after
outward_steady s out.Ping p = ping_steady s p
outward_steady s (out.Send channel length flags) p = send_steady s channel length flags p
outward_steady s (out.Setup piece) p = setup_steady s piece p
outward_steady s (out.SendStep queue time) p = step_steady s queue time p
outward_steady s (out.Acknowledgement channel number sent clock) p = acknowledge_steady s channel number.0 sent clock p
outward_steady s (out.TimeoutCheck clock) p = check_steady s clock p
outward_steady s (out.Throttle sample) p = throttle_steady s sample p

pub outward_sounds : (s : Settings) (c : Call) → Sounds (calls_out s c)
outward_sounds s out.Ping = ping_sounds s
outward_sounds s (out.Send channel length flags) = send_sounds s channel length flags
outward_sounds s (out.Setup piece) = setup_sounds s piece
outward_sounds s (out.SendStep queue time) = step_sounds s queue time
outward_sounds s (out.Acknowledgement channel number sent clock) = acknowledge_sounds s channel number.0 sent clock
outward_sounds s (out.TimeoutCheck clock) = check_sounds s clock
outward_sounds s (out.Throttle sample) = throttle_sounds s sample
