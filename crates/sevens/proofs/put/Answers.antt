-- `put` meets its contract: what all stores will make is kept at each turn (`Going`); the rest falls.
use native.Mathlib.Omega.{arith}
use lib.ListN.{length-set}
use Rattle.sevens.proofs.Writing.{begun, in_room, ended, turn}
use Rattle.sevens.proofs.put.Goals as goal

pub loop-rest-init : goal.loop-rest-init
loop-rest-init c = begun c.args.buffer.now c.args.at c.args.x (omega arith) c.requires

pub bounds-buffer-i : goal.bounds-buffer-i
bounds-buffer-i c = omega (arith, in_room c.loop-rest.invariant)

pub overflow_add-i : goal.overflow_add-i
overflow_add-i c = omega (arith, in_room c.loop-rest.invariant)

pub loop-rest-preserved : goal.loop-rest-preserved
loop-rest-preserved c =
    let a = c.args in
    turn a.buffer.now a.at a.x c.loop-rest.buffer c.loop-rest.rest c.loop-rest.i c.loop-rest.invariant c.loop-rest-test.true

pub bounds-buffer-i-2 : goal.bounds-buffer-i-2
bounds-buffer-i-2 c = omega (arith, in_room c.loop-rest.invariant)

pub shape_of-buffer : goal.shape_of-buffer
shape_of-buffer c = rw length-set c.loop-rest.invariant.size

pub returns : goal.returns
returns c = ended c.loop-rest.invariant (omega arith)
