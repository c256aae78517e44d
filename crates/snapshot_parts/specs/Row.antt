-- C-12: the record's numbers as a snapshot has them, each in its groups, and read back place by place, by the table of the record's places.
use Rattle.std.specs.Prelude.{ℕ, zero, suc, ◌+◌, ◌%◌, Bool, true, List, [], ◌∷◌, ◌++◌, leb, get_or, set, drop, Option, Some, None}
use Rattle.numbers.specs.Pick.{pick, both}
use Rattle.command.specs.Layout.{known}
use Rattle.sevens.specs.Groups.{written, read}
use Rattle.sevens.specs.declared.Grouped.{Grouped}
use Rattle.places.specs.Whole.{whole}
use Rattle.order.specs.Table.{table, nowhere}
use Rattle.order.specs.declared.Place.{Place}

-- numbers, each in its groups
unfoldable pub grouped : List ℕ → List ℕ
grouped [] = []
grouped (x ∷ xs) = written x ++ grouped xs

-- "number above its field, list above its pool, command byte of no command" (15), turned round
abbrev pub fits : Place → ℕ → Bool
fits e x = both (leb x e.most) (pick e.is_command (known (x % 16)) true)

-- the numbers with x in place i; a command's byte names the kind too, which stands 16 places behind it
abbrev pub put_at : Place → ℕ → ℕ → List ℕ → List ℕ
put_at e i x ws = pick e.is_command (set (set ws i x) (i + 16) (x % 16)) (set ws i x)

-- the numbers read at full size, and the bytes behind them
pub data Parsed : Type 0 where
  parsed : (numbers rest : List ℕ) → Parsed
  unread : Parsed

-- what comes of a number in its groups that begins these bytes: it is fit, and the rest is read with it
abbrev pub with_number : Place → ℕ → List ℕ → List ℕ → Option Grouped → (List ℕ → List ℕ → Parsed) → Parsed
with_number e i ws bs (Some g) rest = pick (fits e g.value) (rest (put_at e i g.value ws) (drop g.groups bs)) unread
with_number e i ws bs None rest = unread

-- n places from place i on: one that is written has its number at the head of the bytes; which are written, the numbers before it say
unfoldable pub numbers_from : ℕ → ℕ → List ℕ → List ℕ → Parsed
numbers_from zero i ws bs = parsed ws bs
numbers_from (suc n) i ws bs =
    let e = get_or (table (whole ws)) i nowhere in
    pick e.is_written
    (with_number e i ws bs (read bs) (λ (vs : List ℕ) (cs : List ℕ). numbers_from n (i + 1) vs cs))
    (numbers_from n (i + 1) ws bs)

-- what a reader of these bytes that left these numbers says: where it stopped, or that they cannot be read
abbrev pub result_of : Option ℕ → List ℕ → List ℕ → Parsed
result_of (Some end) ws bs = parsed ws (drop end bs)
result_of None ws bs = unread
