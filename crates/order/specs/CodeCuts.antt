-- For functions inside the house alone: how the code makes a place out of a lent number. Nothing here need be believed: the contract of `place_at` is the table's own.
use Rattle.std.specs.Prelude.{ℕ, ◌*◌, ◌%◌, ◌^◌, leb, ltb, eqb}
use Rattle.numbers.specs.Pick.{pick}
use Rattle.command.specs.Layout.{known, width_of}
use Rattle.pool.specs.Slots.{kind_from}
use Rattle.order.specs.Table.{plain, as_command, unwritten}
use Rattle.order.specs.declared.Place.{Place}

-- a lent number as it is read in so many bits: a flag is 1 where it is not 0, another is cut to its bits
abbrev pub cut : ℕ → ℕ → ℕ
cut bits x = pick (eqb bits 32) x (pick (eqb bits 1) (pick (leb 1 x) 1 0) (x % 2 ^ bits))

abbrev pub cut_place : ℕ → ℕ → Place
cut_place bits x = plain bits (cut bits x)

-- a field of a kind that is none reads 0
abbrev pub field_from : ℕ → ℕ → ℕ → ℕ
field_from kind j x = pick (ltb j 3) x (pick (known kind) x 0)

-- number j of a command of a kind, x standing there
abbrev pub command_place : ℕ → ℕ → ℕ → Place
command_place kind j x =
    let bytes = width_of (kind_from kind) j in
    let e = cut_place (8 * bytes) (field_from kind j x) in
    pick (eqb j 0) (as_command e) (pick (ltb 0 bytes) e (unwritten e))
