-- What the search finds in the whole list is what it finds in what is left of it, a turn at a time.
use Rattle.std.proofs.Common.{ℕ, ◌≡◌, Bool, List, map, length, take, drop}
use Rattle.numbers.specs.declared.counters.Reliable.{Reliable}
use Rattle.record.specs.Lists.{out_items}
use Rattle.places.specs.Whole.{whole}
use Rattle.queues.specs.Queues.{out_of}
use Rattle.queues.specs.declared.Out.{Out}
use Rattle.acknowledge.specs.CodeSearches.{look_of, at}
use Rattle.acknowledge.specs.Removal.{seek}
use Rattle.acknowledge.specs.declared.removal.Seen.{Seen}
use Rattle.acknowledge.proofs.removal.seek.Given as goal

-- the slots that the list names, and what the search makes of a slot
abbrev pub named : List ℕ → Out → List ℕ
named ws list = out_items (out_of list (whole ws).lists)

abbrev pub made : List ℕ → Reliable → ℕ → Bool → ℕ → Seen
made ws number channel sent s = at (map (look_of sent number.0 channel) (whole ws).outgoing) s

abbrev pub invariant-loop-k : goal.invariant-loop-k
invariant-loop-k l =
    (l.k-end ≡ length (named l.words l.list))
    × (seek (made l.words l.number l.channel l.sent) 0 (named l.words l.list) ≡ seek (made l.words l.number l.channel l.sent) l.k (drop l.k (take l.k-end (named l.words l.list))))
