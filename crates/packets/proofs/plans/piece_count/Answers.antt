-- `piece_count` meets its contract: a packet has no more pieces than bytes, so their number fits.
use mathlib.Core.Path.{sym}
use native.Mathlib.Nat.{div-zero}
use native.Mathlib.Omega.{arith}
use Rattle.packets.proofs.Cuts.{count_fits}
use Rattle.packets.proofs.plans.piece_count.Goals as goal

pub returns-then-fragment-eq0 : goal.returns-then-fragment-eq0
returns-then-fragment-eq0 c = rw c.if-fragment-eq0.true (sym (div-zero _))

pub overflow_cast-result-2 : goal.overflow_cast-result-2
overflow_cast-result-2 c = omega (arith, count_fits c.args.fragment c.args.length (omega (arith, c.if-fragment-eq0.false)))
