-- "The hash of a row of numbers starts at 0 and is, for each, (hash × 65,599 + number) mod 4,294,967,291." (SCRIPT.md, "A line")
use Rattle.std.specs.Prelude.{ℕ, ◌+◌, ◌*◌, ◌%◌, List, [], ◌∷◌}
use Rattle.script.specs.declared.row.Row.{Row}

abbrev pub mixed : ℕ → ℕ → ℕ
mixed hash x = (hash * 65599 + x) % 4294967291

unfoldable pub hashed : ℕ → List ℕ → ℕ
hashed hash [] = hash
hashed hash (x ∷ xs) = hashed (mixed hash x) xs

-- a row with so many numbers more
abbrev pub told : Row → List ℕ → Row
told row xs = record { hash = hashed row.hash xs; is_shown = row.is_shown }
