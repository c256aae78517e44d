-- Two writes, one beside the other, of two numbers made wider.
use native.Mathlib.Omega.{arith}
use lib.ListN.{length-set}
use Rattle.places.proofs.channels.put_pair.Goals as goal

pub bounds-words-at-2 : goal.bounds-words-at-2
bounds-words-at-2 c = rw length-set (omega (arith, c.requires))

pub returns : goal.returns
returns c =
    let r = c.wide16-reliable in
    let u = c.wide16-unreliable in
    record { is = rw (r.ensures.is, u.ensures.is); low = (r.ensures.low, u.ensures.low) }
