-- `early` meets its contract. The loop's invariant: what the search from the head finds is j and what it finds from place j on.
use Prim.Native.Nat.{◌+◌}
use mathlib.Core.Path.{◌≡◌}
use lib.ListN.{length, drop}
use Rattle.record.specs.Lists.{out_items}
use Rattle.places.specs.Whole.{whole}
use Rattle.timeouts.specs.CodeEarly.{early}
use Rattle.timeouts.proofs.back.early.Given as goal

abbrev pub invariant-loop-j : goal.invariant-loop-j
invariant-loop-j l =
    let p = whole l.words in
    let items = out_items p.lists.sent in
    (l.n ≡ length items) × (early l.clock p.outgoing items ≡ l.j + early l.clock p.outgoing (drop l.j items))
