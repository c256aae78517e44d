-- Where a reliable arrival stands on its channel: "distance from the channel's last number, modulo 65,536; 0, above 32,767, or its number already
-- held on that channel: passed over", else "stored before the first held one that is farther".
use Rattle.std.specs.Prelude.{ℕ, suc, Bool, true, false, List, [], ◌∷◌, ◌==◌, nat_lt, slice_index_or}
use Rattle.numbers.specs.Pick.{pick}
use Rattle.numbers.specs.Modulo.{minus}
use Rattle.record.specs.Lists.{incoming, in_items, in_keep}
use Rattle.cells.specs.Runs.{inserted}
use Rattle.record.specs.Fresh.{no_incoming}
use Rattle.record.specs.Updates.{with_held}
use Rattle.record.specs.declared.groups.Channel.{Channel}
use Rattle.record.specs.declared.groups.Incoming.{Incoming}

-- how far number n is past the last one
abbrev pub number_distance : ℕ → ℕ → ℕ
number_distance last n = minus 16 n last

-- the number in slot s
abbrev pub number_at : List Incoming → ℕ → ℕ
number_at slots s = (slice_index_or slots s no_incoming).number.0

-- some slot of a list has number n
unfoldable pub holds : List Incoming → List ℕ → ℕ → Bool
holds slots [] n = false
holds slots (s ∷ ss) n = pick (number_at slots s == n) true (holds slots ss n)

abbrev pub farthest : ℕ
farthest = 32767

abbrev pub is_passed : List Incoming → Channel → ℕ → Bool
is_passed slots c n =
    let d = number_distance c.incoming_reliable.0 n in
    pick (d == 0) true (pick (nat_lt farthest d) true (holds slots (in_items c.held) n))

-- how many of a list stand before the first that is farther than d
unfoldable pub place_of : List Incoming → List ℕ → ℕ → ℕ → ℕ
place_of slots [] last d = 0
place_of slots (s ∷ ss) last d = pick (nat_lt d (number_distance last (number_at slots s))) 0 (suc (place_of slots ss last d))

-- the channel, holding slot s in the place of number n
abbrev pub held_with : List Incoming → Channel → ℕ → ℕ → Channel
held_with slots c n s =
    let held = in_items c.held in
    let last = c.incoming_reliable.0 in
    with_held c (in_keep c.held (inserted incoming held (place_of slots held last (number_distance last n)) s))
