-- For functions inside the house alone: one slot of the walk. Nothing here need be believed: the contracts of `size`, `put` and `lay` are the rule's own.
use Rattle.std.specs.Prelude.{ℕ, get_or}
use Rattle.numbers.specs.Pick.{pick}
use Rattle.record.specs.Fresh.{no_incoming}
use Rattle.record.specs.declared.groups.Incoming.{Incoming}
use Rattle.peer.specs.declared.Peer.{Peer}
use Rattle.order.specs.Table.{used_incoming}

-- slot s where it is used; else an empty one, which has no bytes
abbrev pub used_at : Peer → ℕ → Incoming
used_at p s = pick (used_incoming p s) (get_or p.incoming s no_incoming) no_incoming
