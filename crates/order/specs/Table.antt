-- C-12, "the record in document 01's order, lists at their length, channels below the count, used slots by rising number": one table of all the
-- record's places at full size. Of each it says the number that stands there, how many bits it has, the most that may be read there, and whether it is written.
use Rattle.std.specs.Prelude.{ℕ, zero, suc, ◌+◌, ◌*◌, ◌-◌, ◌^◌, Bool, true, false, List, [], ◌∷◌, ◌++◌, map, ltb, length, get_or, set, replicate}
use Rattle.numbers.specs.Pick.{pick}
use Rattle.command.specs.Layout.{layout}
use Rattle.command.specs.Bytes.{pad}
use Rattle.command.specs.Rows.{kind_of}
use Rattle.cells.specs.Runs.{has}
use Rattle.record.specs.Lists.{outgoing, incoming}
use Rattle.record.specs.Damage.{below, used_out, used_in}
use Rattle.record.specs.declared.outgoing.OutList.{OutList}
use Rattle.record.specs.declared.incoming.InList.{InList}
use Rattle.record.specs.declared.groups.Lists.{Lists}
use Rattle.record.specs.declared.groups.Unsequenced.{Unsequenced}
use Rattle.record.specs.declared.groups.Waiting.{Waiting}
use Rattle.record.specs.declared.groups.Channel.{Channel}
use Rattle.record.specs.declared.groups.Outgoing.{Outgoing}
use Rattle.record.specs.declared.groups.Incoming.{Incoming}
use Rattle.record.specs.declared.groups.Marks.{Marks}
use Rattle.pool.specs.Slots.{words_of}
use Rattle.peer.specs.declared.Peer.{Peer}
use Rattle.order.specs.declared.Place.{Place}

-- a number of so many bits, written
abbrev pub plain : ℕ → ℕ → Place
plain bits x = record { number = x; bits = bits; most = 2 ^ bits - 1; is_command = false; is_written = true }

-- a list's length: "no longer than its pool"
abbrev pub length_of : ℕ → ℕ → Place
length_of pool n = record { number = n; bits = 16; most = pool; is_command = false; is_written = true }

-- a command's byte, which names a command
abbrev pub as_command : Place → Place
as_command e =
    record { number = e.number; bits = e.bits; most = e.most; is_command = true; is_written = e.is_written }

-- "What is not written reads 0"
abbrev pub unwritten : Place → Place
unwritten e =
    record { number = 0; bits = e.bits; most = e.most; is_command = e.is_command; is_written = false }

-- no place
abbrev pub nowhere : Place
nowhere = unwritten (plain 0 0)

-- only the first n are written
unfoldable pub first : ℕ → List Place → List Place
first n [] = []
first zero (e ∷ es) = unwritten e ∷ first zero es
first (suc n) (e ∷ es) = e ∷ first n es

-- all of them, or none
abbrev pub there : Bool → ℕ → ℕ
there b n = pick b n 0

-- numbers, each of its own bits
unfoldable pub numbered : List ℕ → List ℕ → List Place
numbered [] xs = []
numbered (b ∷ bs) [] = []
numbered (b ∷ bs) (x ∷ xs) = plain b x ∷ numbered bs xs

-- "A list is its length and its slots, 16 bits each"
abbrev pub list_places : ℕ → ℕ → List ℕ → List Place
list_places pool n slots = length_of pool n ∷ first n (map (plain 16) slots)

abbrev pub out_places : OutList → List Place
out_places l = list_places outgoing l.len l.slots

abbrev pub in_places : InList → List Place
in_places l = list_places incoming l.len l.slots

-- "`ENetPeer`'s fields" up to the outgoing reliable number: two peer ids, connect id, two session ids, 37 numbers of 32 bits, the reliable number
abbrev pub own_bits : List ℕ
own_bits = 16 ∷ 16 ∷ 32 ∷ 8 ∷ 8 ∷ (replicate 37 32 ++ (16 ∷ []))

unfoldable pub own_row : Peer → List ℕ
own_row p =
    p.ids.outgoing_peer ∷ p.ids.incoming_peer ∷ p.ids.connect ∷ p.ids.outgoing_session ∷ p.ids.incoming_session
    ∷ p.standing.state ∷ p.standing.channels
    ∷ p.bandwidth.incoming ∷ p.bandwidth.outgoing ∷ p.bandwidth.incoming_epoch ∷ p.bandwidth.outgoing_epoch
    ∷ p.totals.incoming ∷ p.totals.outgoing
    ∷ p.times.last_send ∷ p.times.last_receive ∷ p.times.next_timeout ∷ p.times.earliest_timeout
    ∷ p.loss.epoch ∷ p.loss.sent ∷ p.loss.lost ∷ p.loss.loss ∷ p.loss.variance
    ∷ p.throttling.value ∷ p.throttling.limit ∷ p.throttling.counter ∷ p.throttling.epoch
    ∷ p.throttling.acceleration ∷ p.throttling.deceleration ∷ p.throttling.interval
    ∷ p.limits.ping ∷ p.limits.timeout ∷ p.limits.minimum ∷ p.limits.maximum
    ∷ p.trips.last ∷ p.trips.lowest ∷ p.trips.last_variance ∷ p.trips.highest_variance ∷ p.trips.mean ∷ p.trips.variance
    ∷ p.flow.mtu ∷ p.flow.window ∷ p.flow.transit ∷ p.flow.own_number.0 ∷ []

-- flags, reserved and the two groups; the 32 words; event data, waiting total, host count
abbrev pub group_bits : List ℕ
group_bits = 16 ∷ 16 ∷ 16 ∷ 16 ∷ replicate 35 32

abbrev pub group_row : Unsequenced → Waiting → List ℕ
group_row g w =
    g.flags ∷ g.reserved ∷ g.incoming.0 ∷ g.outgoing.0 ∷ (g.words ++ (w.event ∷ w.total ∷ w.queued ∷ []))

-- "each channel's outgoing, then incoming reliable and unreliable number, its incoming list (none at or above the count)"
abbrev pub channel_places : Bool → Channel → List Place
channel_places is_there c =
    first (there is_there 17)
    (plain 16 c.outgoing_reliable.0 ∷ plain 16 c.outgoing_unreliable.0 ∷ plain 16 c.incoming_reliable.0
    ∷ plain 16 c.incoming_unreliable.0 ∷ in_places c.held)

-- "reliable and unreliable number, sent time, timeout, queue time, offset, piece length, attempts, packet 1 or 0, command as in its struct":
-- byte, channel, number and fields as wide as there; its kind is never written, the byte names it
abbrev pub command_bits : ℕ → List ℕ
command_bits kind = pad 16 (map (λ (bytes : ℕ). 8 * bytes) (layout kind))

abbrev pub slot_bits : ℕ → List ℕ
slot_bits kind = 16 ∷ 16 ∷ 32 ∷ 32 ∷ 32 ∷ 32 ∷ 16 ∷ 16 ∷ 1 ∷ (command_bits kind ++ (8 ∷ []))

abbrev pub slot_numbers : Outgoing → List Place
slot_numbers o = numbered (slot_bits (kind_of o.command.fields)) (words_of o)

abbrev pub slot_places : Bool → Outgoing → List Place
slot_places is_used o =
    let es = slot_numbers o in
    first (there is_used (9 + length (layout (kind_of o.command.fields)))) (set es 9 (as_command (get_or es 9 nowhere)))

-- "command byte, channel, reliable number, fragments, fragments remaining, length"
abbrev pub in_slot_bits : List ℕ
in_slot_bits = 8 ∷ 8 ∷ 16 ∷ 32 ∷ 32 ∷ 32 ∷ []

abbrev pub in_slot_row : Incoming → List ℕ
in_slot_row i = i.byte ∷ i.channel ∷ i.number.0 ∷ i.fragments ∷ i.remaining ∷ i.length ∷ []

abbrev pub in_slot_places : Bool → Incoming → List Place
in_slot_places is_used i = first (there is_used 6) (numbered in_slot_bits (in_slot_row i))

-- one thing after the other, from number k on, each with a test of its number
unfoldable pub each_places : {A : Type 0} → (Bool → A → List Place) → (ℕ → Bool) → ℕ → List A → List Place
each_places places test k [] = []
each_places places test k (x ∷ xs) = places (test k) x ++ each_places places test (k + 1) xs

abbrev pub marks_row : Marks → List ℕ
marks_row m = m.low ∷ m.high ∷ []

-- "used slots by rising number"
abbrev pub used_outgoing : Peer → ℕ → Bool
used_outgoing p s = has (used_out p.lists) s

abbrev pub used_incoming : Peer → ℕ → Bool
used_incoming p s = has (used_in p.lists (below p.channels p.standing.channels)) s

-- the lists sent, send-reliable, outgoing and dispatched
abbrev pub lists_places : Lists → List Place
lists_places l =
    out_places l.sent ++ (out_places l.send_reliable ++ (out_places l.outgoing ++ in_places l.dispatched))

-- channels, outgoing slots, incoming slots, and C-11's two words of marks, always
abbrev pub things_places : Peer → List Place
things_places p =
    each_places channel_places (λ (c : ℕ). ltb c p.standing.channels) 0 p.channels
    ++ (each_places slot_places (used_outgoing p) 0 p.outgoing
    ++ (each_places in_slot_places (used_incoming p) 0 p.incoming ++ numbered (32 ∷ 32 ∷ []) (marks_row p.marks)))

unfoldable pub table : Peer → List Place
table p =
    numbered own_bits (own_row p)
    ++ (lists_places p.lists ++ (numbered group_bits (group_row p.unsequenced p.waiting) ++ things_places p))

-- the numbers of a table that are written, in its order: "The record's row of numbers" (SCRIPT.md, "A line")
unfoldable pub shown : List Place → List ℕ
shown [] = []
shown (e ∷ es) = pick e.is_written (e.number ∷ shown es) (shown es)

abbrev pub row_of : Peer → List ℕ
row_of p = shown (table p)
