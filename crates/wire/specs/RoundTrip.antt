-- The two round trips, about whatever the contracts of `read` and `write` allow: "reading then writing gives the same bytes, writing then
-- reading the same fields".
use Rattle.std.specs.Prelude.{ℕ, ◌+◌, ◌≤◌, ◌<◌, ◌≡◌, true, List, ◌++◌, length, take, drop, Option, Some, None}
use Rattle.command.specs.Layout.{layout}
use Rattle.command.specs.Bytes.{fits, Bytes}
use Rattle.command.specs.Rows.{kind_of, row_of}
use Rattle.command.specs.declared.fields.Command.{Command}
use Rattle.wire.specs.Reading.{read_at, answer_of}
use Rattle.wire.specs.Writing.{Written}
use Rattle.wire.specs.declared.reader.Reading.{Reading}

-- the command's numbers fit their fields: every command of the program does, by its fields' types
abbrev pub Fitting : Command → Type 0
Fitting c = fits (layout (kind_of c.fields)) (row_of c) ≡ true

-- after a write at i that was done, any read there finds that command, and the place after it
abbrev pub WriteThenRead : Type 0
WriteThenRead =
    (s after : List ℕ) (i next : ℕ) (c : Command) (r : Option Reading)
    → Fitting c → Written s i c (Some next) after → answer_of r ≡ read_at after i → r ≡ Some (record { command = c; next = next })

-- a write at j into t of a command whose `size` bytes stand in s at i: those bytes from j on and no other changed; refused, and t as it was,
-- where there is no room
pub record Copies (s : List ℕ) (i size : ℕ) (t : List ℕ) (j : ℕ) (r : Option ℕ) (after : List ℕ) : Type 0 where
  pub room : j + size ≤ length t → (r ≡ Some (j + size)) × (after ≡ take j t ++ take size (drop i s) ++ drop (j + size) t)
  pub short : length t < j + size → (r ≡ None) × (after ≡ t)

-- what a read of s at i found is written so at any place of any buffer
abbrev pub ReadThenWrite : Type 0
ReadThenWrite =
    (s t after : List ℕ) (i j size : ℕ) (c : Command) (r : Option ℕ)
    → Bytes s → answer_of (Some (record { command = c; next = i + size })) ≡ read_at s i → Written t j c r after → Copies s i size t j r after
