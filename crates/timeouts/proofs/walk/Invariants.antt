-- `walk` meets its contract. What its loop keeps is `Going`: what the walk makes of all slots of the sent list is what it makes of those left, on the record
-- as stored so far; it begins behind those that are not due.
use Prim.Native.Nat.{◌≤◌}
use mathlib.Core.Path.{◌≡◌}
use lib.ListN.{length}
use Rattle.record.specs.Lists.{out_items}
use Rattle.places.specs.Whole.{whole, record_length}
use Rattle.overdue.specs.Walking.{at_entry}
use Rattle.timeouts.proofs.Walking.{Going}
use Rattle.timeouts.proofs.walk.Given as goal

abbrev pub invariant-loop-j : goal.invariant-loop-j
invariant-loop-j l =
    let p = whole l.initial.words in
    (l.n ≤ 32) × (length l.words ≡ record_length) × (length l.marks ≡ 32) × Going l.limits l.clock (out_items p.lists.sent) (at_entry p.times p.loss p.flow) p (whole l.words) l.w l.marks l.j
