-- What a list of each pool means: its first `len` cells, and all of them where it is longer than its pool.
use Rattle.std.specs.Prelude.{ℕ, List, length, take}
use Rattle.cells.specs.Runs.{over}
use Rattle.record.specs.declared.outgoing.OutList.{OutList}
use Rattle.record.specs.declared.incoming.InList.{InList}

-- the pools' sizes
abbrev pub outgoing : ℕ
outgoing = 32

abbrev pub incoming : ℕ
incoming = 12

abbrev pub out_items : OutList → List ℕ
out_items l = take l.len l.slots

abbrev pub in_items : InList → List ℕ
in_items l = take l.len l.slots

-- the list that names xs; the cells past its end as they were
abbrev pub out_keep : OutList → List ℕ → OutList
out_keep l xs = record { len = length xs; slots = over xs l.slots }

abbrev pub in_keep : InList → List ℕ → InList
in_keep l xs = record { len = length xs; slots = over xs l.slots }
