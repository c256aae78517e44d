-- Ops 20 to 24, the bench's own (SCRIPT.md): which places of the record they set, and what fits there. A place that does not exist is none.
use Rattle.std.specs.Prelude.{ℕ, ◌+◌, ◌*◌, ◌-◌, ◌^◌, Bool, true, Option, Some, None, List, [], ◌∷◌, ◌++◌, leb, ltb, get_or}
use Rattle.numbers.specs.Pick.{pick, both}
use Rattle.command.specs.Bytes.{pad}
use Rattle.command.specs.Rows.{row_of, kind_of}
use Rattle.command.specs.declared.fields.Command.{Command}
use Rattle.record.specs.Lists.{outgoing, incoming}
use Rattle.record.specs.Sizes.{channels}
use Rattle.peer.specs.declared.Peer.{Peer}
use Rattle.order.specs.Table.{table, nowhere}
use Rattle.order.specs.declared.Place.{Place}

-- op 20: "which (0 to 42 as above; 43 flags, 44 reserved, 45 incoming group, 46 outgoing group, 47 event data, 48 waiting total, 49 host count; 64 to 95
-- the words, 96 and 97 the two words of marks)"
abbrev pub number_place : ℕ → Option ℕ
number_place which =
    pick (leb which 42) (Some which)
    (pick (leb which 46) (Some (155 + (which - 43)))
    (pick (leb which 49) (Some (191 + (which - 47)))
    (pick (leb which 63) None
    (pick (leb which 95) (Some (159 + (which - 64)))
    (pick (leb which 97) (Some (1234 + (which - 96))) None)))))

-- op 21: "list (0 sent, 1 send-reliable, 2 outgoing, 3 dispatched, 8 to 15 the channels' lists), which (0 its length, then its slots)"
abbrev pub cell_at : ℕ → ℕ → ℕ → Option ℕ
cell_at at most which = pick (leb which most) (Some (at + which)) None

abbrev pub cell_place : ℕ → ℕ → Option ℕ
cell_place list which =
    pick (leb list 2) (cell_at (43 + list * 33) outgoing which)
    (pick (leb list 3) (cell_at 142 incoming which)
    (pick (leb list 7) None
    (pick (leb list 15) (cell_at (194 + (list - 8) * 17 + 4) incoming which) None)))

-- op 22: "channel, which (0 to 3)"
abbrev pub channel_place : ℕ → ℕ → Option ℕ
channel_place channel which = pick (ltb channel channels) (cell_at (194 + channel * 17) 3 which) None

-- ops 23 and 24: where a slot's numbers begin
abbrev pub outgoing_place : ℕ → Option ℕ
outgoing_place s = pick (ltb s outgoing) (Some (330 + s * 26)) None

abbrev pub incoming_place : ℕ → Option ℕ
incoming_place s = pick (ltb s incoming) (Some (1162 + s * 6)) None

-- "A number that does not fit its parameter's type makes no call"; "A place or slot that does not exist there: `bad`": by the bits of its place
abbrev pub fits : Place → ℕ → Bool
fits e x = both (ltb 0 e.bits) (ltb x (2 ^ e.bits))

abbrev pub fits_at : Peer → ℕ → ℕ → Bool
fits_at p i x = fits (get_or (table p) i nowhere) x

-- whether numbers fit the places from i on
unfoldable pub all_fit : Peer → ℕ → List ℕ → Bool
all_fit p i [] = true
all_fit p i (x ∷ xs) = both (fits_at p i x) (all_fit p (i + 1) xs)

-- a command's numbers at full size, and its kind
abbrev pub command_numbers : Command → List ℕ
command_numbers c = pad 16 (row_of c) ++ (kind_of c.fields ∷ [])
