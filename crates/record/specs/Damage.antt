-- "Damaged means": when the parts of a record are sound, clause by clause, over the true lists that they hold. What C-11 adds is said there.
use Rattle.std.specs.Prelude.{ℕ, ◌+◌, Bool, true, List, [], ◌∷◌, ◌++◌, leb, ltb, eqb, get_or, take}
use Rattle.numbers.specs.Pick.{pick, both}
use Rattle.command.specs.Rows.{names_fields}
use Rattle.record.specs.Lists.{outgoing, incoming, out_items, in_items}
use Rattle.cells.specs.Free.{exist, once}
use Rattle.record.specs.declared.groups.Lists.{Lists}
use Rattle.record.specs.declared.groups.Channel.{Channel}
use Rattle.record.specs.declared.groups.Outgoing.{Outgoing}
use Rattle.record.specs.declared.groups.Incoming.{Incoming}
use Rattle.record.specs.declared.groups.Marks.{Marks}
use Rattle.numbers.specs.Limits.{mtu_fits}
use Rattle.record.specs.Sizes.{channels, cell}
use Rattle.record.specs.Channels.{on_channel}
use Rattle.record.specs.Fresh.{no_outgoing, no_incoming}
use Rattle.record.specs.Blocks.{is_block, block_fit}

-- every slot of a list passes a test
unfoldable pub all : (ℕ → Bool) → List ℕ → Bool
all f [] = true
all f (x ∷ xs) = both (f x) (all f xs)

-- the channels below the count: none at or above it counts
abbrev pub below : List Channel → ℕ → List Channel
below cs count = take count cs

-- the slots that the lists of these channels hold, channel by channel
unfoldable pub held : List Channel → List ℕ
held [] = []
held (c ∷ cs) = in_items c.held ++ held cs

-- the slots that a pool's lists name
abbrev pub used_out : Lists → List ℕ
used_out l = out_items l.sent ++ (out_items l.send_reliable ++ out_items l.outgoing)

abbrev pub used_in : Lists → List Channel → List ℕ
used_in l cs = in_items l.dispatched ++ held cs

-- "MTU or channel count (0 to 8) out of range"
abbrev pub ranged : ℕ → ℕ → Bool
ranged mtu count = both (mtu_fits mtu) (leb count channels)

-- "a list is longer than its pool"
unfoldable pub held_fit : List Channel → Bool
held_fit [] = true
held_fit (c ∷ cs) = both (leb c.held.len incoming) (held_fit cs)

abbrev pub lists_fit : Lists → Bool
lists_fit l =
    both (leb l.sent.len outgoing)
    (both (leb l.send_reliable.len outgoing)
    (both (leb l.outgoing.len outgoing) (leb l.dispatched.len incoming)))

-- "an outgoing command that setup refuses with 9, or its channel neither below the count nor 255"
abbrev pub out_fit : List Outgoing → ℕ → ℕ → Bool
out_fit slots count s =
    let c = (get_or slots s no_outgoing).command in
    both (names_fields c) (on_channel c.channel count)

-- "a sent command with 0 attempts"
abbrev pub tried : List Outgoing → ℕ → Bool
tried slots s = leb 1 (get_or slots s no_outgoing).attempts

-- "an incoming length above 4,096"; C-11: "which 4,096 does not bound" in a block's slot, whose numbers and marks belong together
abbrev pub kind_fit : Marks → Incoming → Bool
kind_fit m i = pick (is_block i) (block_fit m i) (leb i.length cell)

-- and "an incoming one's not below the count"
abbrev pub in_fit : Marks → List Incoming → ℕ → ℕ → Bool
in_fit m slots count s = both (kind_fit m (get_or slots s no_incoming)) (ltb (get_or slots s no_incoming).channel count)

-- "or not that of the channel list it stands in": the channels counted from k
unfoldable pub own : List Incoming → ℕ → List Channel → Bool
own slots k [] = true
own slots k (c ∷ cs) =
    both (all (λ (s : ℕ). eqb (get_or slots s no_incoming).channel k) (in_items c.held)) (own slots (k + 1) cs)

-- the lengths of the slots, summed
unfoldable pub lengths : List Incoming → List ℕ → ℕ
lengths slots [] = 0
lengths slots (s ∷ ss) = (get_or slots s no_incoming).length + lengths slots ss

-- how many of the slots are blocks
unfoldable pub blocks : List Incoming → List ℕ → ℕ
blocks slots [] = 0
blocks slots (s ∷ ss) = pick (is_block (get_or slots s no_incoming)) 1 0 + blocks slots ss

-- C-11: "a second block"; "marks (two words after the slots, 0 with no block)"
abbrev pub one_block : Marks → ℕ → Bool
one_block m n = pick (eqb n 0) (both (eqb m.low 0) (eqb m.high 0)) (eqb n 1)

-- the outgoing pool: "names a slot that does not exist, or a slot stands twice", and each command
abbrev pub out_sound : List Outgoing → Lists → ℕ → Bool
out_sound slots l count =
    both (both (exist outgoing (used_out l)) (once (used_out l)))
    (both (all (out_fit slots count) (used_out l)) (all (tried slots) (out_items l.sent)))

-- the incoming pool, and "waiting total not the sum of lengths held"
abbrev pub in_sound : Marks → List Incoming → Lists → List Channel → ℕ → ℕ → Bool
in_sound m slots l cs count total =
    both (both (exist incoming (used_in l cs)) (once (used_in l cs)))
    (both (all (in_fit m slots count) (used_in l cs))
    (both (own slots 0 cs) (both (eqb total (lengths slots (used_in l cs))) (one_block m (blocks slots (used_in l cs))))))

-- "Damaged means", turned round, on the parts of a record that it looks at
abbrev pub parts_sound : ℕ → ℕ → ℕ → Lists → List Channel → List Outgoing → List Incoming → Marks → Bool
parts_sound mtu count total lists cs out inn m =
    let now = below cs count in
    both (ranged mtu count)
    (both (both (lists_fit lists) (held_fit now)) (both (out_sound out lists count) (in_sound m inn lists now count total)))
