-- A ping's own gate is open only where a slot is free. By cases.
use Prim.Native.Nat.{◌≤◌}
use mathlib.Core.Path.{◌≡◌, refl, ap}
use mathlib.Core.Bool.{Bool, true, false}
use native.Mathlib.Omega.{arith}
use lib.Dec.{leb}
use borrow.Author.Tests.{leb-true}
use Rattle.std.specs.Prelude.{Result, ⊤, Ok, Err}
use Rattle.numbers.specs.Pick.{pick}
use Rattle.numbers.specs.declared.refusals.Refusal.{Refusal}
use Rattle.numbers.specs.declared.refusals.Refusal.TheVariants.{NotConnected, FailedToQueue}
use Rattle.peer.specs.States.{is_connected}
use Rattle.peer.specs.declared.Peer.{Peer}
use Rattle.peer.proofs.Gates.{openness}
use Rattle.setup.specs.Queueing.{room}
use Rattle.setup.specs.Pings.{ping_gate}

gate_some : (a b : Bool) → pick {A = Result ⊤ Refusal} a (pick b (Ok tt) (Err FailedToQueue)) (Err NotConnected) ≡ Ok tt → b ≡ true
gate_some true true e = refl
gate_some true false e = absurd (omega (arith, ap openness e))
gate_some false b e = absurd (omega (arith, ap openness e))

pub ping_some : (p : Peer) → ping_gate p.standing (room p) ≡ Ok tt → 1 ≤ room p
ping_some p e = leb-true 1 (room p) (gate_some (is_connected p.standing) (leb 1 (room p)) e)
