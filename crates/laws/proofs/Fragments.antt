-- C-11, the arrival of a piece: what every property of its outcome needs (`fragment_has`), and a sound record stays sound, whatever becomes of the piece
-- (`fragment_sounds`). The argument: a first piece's slot joins the pool and its channel's list as a block without a mark; every piece is then marked in its block's
-- slot; where none remains the record is dispatched. Each of the three leaves a sound record.
use Prim.Native.Nat.{ℕ, ◌+◌, ◌<◌}
use mathlib.Core.Path.{◌≡◌, refl, ap, sym, ◌∙◌}
use mathlib.Core.Bool.{Bool, true, false, not}
use mathlib.Core.List.{List, [], ◌∷◌, ◌++◌}
use native.Mathlib.Omega.{arith}
use lib.Dec.{eqb, ltb, leb}
use lib.ListN.{length, take, drop, get_or, length-set, length-take}
use lib.Seq.{get_or-set_same, get_or-take}
use borrow.Author.Tests.{eqb-true, eqb-false, eq-eqb, ne_eqb}
use Rattle.std.specs.Prelude.{Ok, Err}
use Rattle.numbers.specs.Pick.{pick, both}
use Rattle.numbers.proofs.BoolLaws.{both_left, both_right}
use Rattle.numbers.specs.declared.refusals.Refusal.{Refusal}
use Rattle.numbers.specs.declared.refusals.Refusal.TheVariants.{NotReceiving, LengthTooLarge, NotStored, BadCommand, BadFragment}
use Rattle.record.specs.Lists.{in_items}
use Rattle.record.proofs.Keeps.{times, times_append}
use Rattle.record.specs.Sizes.{cell, store_length, second_length}
use Rattle.record.specs.Damage.{below, held, kind_fit, blocks, one_block, used_in}
use Rattle.record.specs.Fresh.{no_channel, no_incoming}
use Rattle.record.specs.Marks.{no_marks, piece_marked}
use Rattle.record.specs.Blocks.{is_block, block_fit}
use Rattle.record.specs.declared.groups.Channel.{Channel}
use Rattle.record.specs.declared.groups.Incoming.{Incoming}
use Rattle.record.specs.declared.groups.Marks.{Marks}
use Rattle.record.specs.declared.groups.Standing.{Standing}
use Rattle.blocks.specs.Blocks.{block_of}
use Rattle.blocks.proofs.BlockLaws.{new_fit}
use Rattle.blocks.proofs.MarkLaws.{marked_none}
use Rattle.peer.specs.Damage.{sound}
use Rattle.peer.specs.Settings.{fit_settings}
use Rattle.peer.specs.States.{connected, disconnect_later}
use Rattle.peer.specs.Gate.{fits, gate_of, then}
use Rattle.peer.specs.Outcome.{State, Outcome, unchanged, on_peer}
use Rattle.peer.specs.Sounds.{Whole, Sounds}
use Rattle.peer.specs.declared.settings.Settings.{Settings}
use Rattle.peer.specs.declared.Peer.{Peer}
use Rattle.peer.specs.declared.gate.Lent.{Lent}
use Rattle.peer.specs.declared.gate.Lent.TheVariants.{Both}
use Rattle.peer.proofs.Gates.{openness, sound_open, behind_has}
use Rattle.peer.proofs.InClauses.{incoming_clauses}
use Rattle.peer.proofs.Ranges.{count_high}
use Rattle.peer.proofs.Sound.{lent_sounds}
use Rattle.dispatch.specs.Calls.{dispatched_on}
use Rattle.dispatch.proofs.Sums.{held_within}
use Rattle.dispatch.proofs.Sound.{dispatched_sound}
use Rattle.arrival.proofs.Admitted.{Admitted, admitted}
use Rattle.arrival.specs.Arrivals.{passed_over, stored, answer_of, names, is_receiving, is_whole, arrival_gate}
use Rattle.arrive_reliable.specs.Holding.{number_distance, place_of, held_with}
use Rattle.arrive_fragment.specs.Pieces.{channel_of, fate_on, reply_of}
use Rattle.arrive_fragment.specs.Calls.{send_fragment, arrival_of, opened_on, pieced_on, finished_on, piece_on, fragment_after, fragment_sound, arrives_fragment}
use Rattle.arrive_fragment.specs.declared.Piece.{Piece}
use Rattle.arrive_fragment.specs.declared.Fate.{Fate}
use Rattle.arrive_fragment.specs.declared.Fate.TheVariants as fate
use Rattle.laws.proofs.Holding.{at_all_channels, joined_items, joined_by, joined_whole, joined-sound, now, in_pool}
use Rattle.laws.proofs.Fates.{FirstPiece, LaterPiece, first_piece, later_piece, fields_fit_lem, like_count, unfinished_block}
use Rattle.laws.proofs.Pieced.{pieced_on-sound, pieced_on_whole}

-- ---- the gates
-- what is known of a piece that both let through
pub record LetIn (a : Piece) (datagram : List ℕ) (x : State) : Type 0 where
  pub good : sound x.peer ≡ true
  pub long : length x.store ≡ store_length
  pub second : length x.second ≡ second_length
  pub may : Admitted (arrival_of a) x.peer.standing (length datagram)
  pub receiving : is_receiving a.channel x.peer.standing ≡ true

lent_fits : (f w : Bool) → gate_of f w ≡ Ok tt → f ≡ true
lent_fits true w e = refl
lent_fits false w e = absurd (omega (arith, ap openness e))

-- stores that the gate lets through have their lengths
pub lent_both : (s : Settings) (n m : ℕ) (good : Bool) → gate_of (fits s (Both n m)) good ≡ Ok tt → (n ≡ store_length) × (m ≡ second_length)
lent_both s n m good e =
    let one = eqb n store_length in
    let two = eqb m second_length in
    let f = both_right (fit_settings s) (both one two) (lent_fits (fits s (Both n m)) good e) in
    (eqb-true n store_length (both_left one two f), eqb-true m second_length (both_right one two f))

receives : (a : Piece) (s : Settings) (standing : Standing) (end : ℕ) → arrival_gate send_fragment (arrival_of a) s standing end ≡ Ok tt
    → is_receiving a.channel standing ≡ true
receives a s standing end = go (names a.byte send_fragment) (is_receiving a.channel standing) (is_whole (arrival_of a) s end)
  where
    go : (b c d : Bool) → then (pick b (Ok tt) (Err BadCommand)) (then (pick c (Ok tt) (Err NotReceiving)) (pick d (Ok tt) (Err LengthTooLarge))) ≡ Ok tt → c ≡ true
    go true true d e = refl
    go true false d e = absurd (omega (arith, ap openness e))
    go false c d e = absurd (omega (arith, ap openness e))

-- state 5, as it is not 6
pub state-connected : (channel : ℕ) (standing : Standing) → is_receiving channel standing ≡ true → (standing.state ≡ disconnect_later → ⊥)
    → standing.state ≡ connected
state-connected channel standing e not-six =
    let here = ltb channel standing.channels in
    let five = eqb standing.state connected in
    let six = eqb standing.state disconnect_later in
    go five refl (both_right here (pick five true six) e)
  where
    go : (b : Bool) → eqb standing.state connected ≡ b → pick b true (eqb standing.state disconnect_later) ≡ true → standing.state ≡ connected
    go true t e = eqb-true standing.state connected t
    go false t e = absurd (not-six (eqb-true standing.state disconnect_later e))

module _ (s : Settings) (a : Piece) (datagram : List ℕ) (x : State) where
  abbrev p : Peer
  p = x.peer

  abbrev lent : Lent
  lent = Both (length x.store) (length x.second)

  -- a property that refusals (14 and 8 among them) and each fate have
  pub fragment_has : (P : Outcome State → Type 0)
      → ((why : Refusal) → P (unchanged why x))
      → (LetIn a datagram x → fate_on s a p ≡ fate.Passed → P (record { answer = passed_over; after = x }))
      → ((n : ℕ) → LetIn a datagram x → fate_on s a p ≡ fate.First n → P (record { answer = stored; after = fragment_after (fate.First n) a datagram x }))
      → ((n : ℕ) → LetIn a datagram x → fate_on s a p ≡ fate.Later n → P (record { answer = stored; after = fragment_after (fate.Later n) a datagram x }))
      → P (arrives_fragment s a datagram x)
  fragment_has P shut passed first later =
      behind_has (gate_of (fits s lent) (sound p)) x (fragment_sound s a datagram x) P shut
      (λ e. behind_has (arrival_gate send_fragment (arrival_of a) s p.standing (length datagram)) x _ P shut
      (λ own.
      let stores = lent_both s (length x.store) (length x.second) (sound p) e in
      by_fate
      (record {
        good = sound_open (fits s lent) (sound p) e;
        long = stores.0;
        second = stores.1;
        may = admitted send_fragment (arrival_of a) s p.standing (length datagram) own;
        receiving = receives a s p.standing (length datagram) own;
      })
      (fate_on s a p) refl))
    where
      by_fate : LetIn a datagram x → (f : Fate) → fate_on s a p ≡ f
          → P (record { answer = answer_of (reply_of f); after = fragment_after f a datagram x })
      by_fate k fate.Passed e = passed k e
      by_fate k fate.Unfit e = shut BadFragment
      by_fate k fate.NoRoom e = shut NotStored
      by_fate k (fate.First n) e = first n k e
      by_fate k (fate.Later n) e = later n k e

-- ---- where none remains the channel is dispatched
module _ (n : ℕ) (a : Piece) (q : Peer) where
  abbrev pub remains : ℕ
  remains = (get_or q.incoming n no_incoming).remaining

  pub finished_has : (P : Peer → Type 0) → (remains ≡ 0 → P (dispatched_on a.channel q)) → ((remains ≡ 0 → ⊥) → P q) → P (finished_on n a q)
  finished_has P none some = go (eqb remains 0) refl
    where
      go : (b : Bool) → eqb remains 0 ≡ b → P (pick b (dispatched_on a.channel q) q)
      go true e = none (eqb-true remains 0 e)
      go false e = some (eqb-false remains 0 e)

  pub finished_is : remains ≡ 0 → finished_on n a q ≡ dispatched_on a.channel q
  finished_is e = ap (λ (b : Bool). pick b (dispatched_on a.channel q) q) (eq-eqb remains 0 e)

  pub unfinished_is : (remains ≡ 0 → ⊥) → finished_on n a q ≡ q
  unfinished_is e = ap (λ (b : Bool). pick b (dispatched_on a.channel q) q) (ne_eqb remains 0 e)

  pub finished_sound : Whole q → sound q ≡ true → a.channel < q.standing.channels → sound (finished_on n a q) ≡ true
  finished_sound whole good on =
      finished_has (λ (r : Peer). sound r ≡ true) (λ e. dispatched_sound a.channel q whole good on) (λ e. good)

  pub finished_whole : Whole q → Whole (finished_on n a q)
  finished_whole whole =
      finished_has Whole
      (λ e. record { channels = length-set q.channels a.channel _ ∙ whole.channels; outgoing = whole.outgoing; incoming = whole.incoming })
      (λ e. whole)

-- ---- a first piece
-- the channels that count
abbrev counted : Peer → List Channel
counted p = below p.channels p.standing.channels

abbrev marks_of : ℕ → ℕ → Marks
marks_of low high = record { low = low; high = high }

module _ (s : Settings) (a : Piece) (p : Peer) (n : ℕ) (whole : Whole p) (good : sound p ≡ true) (on : a.channel < p.standing.channels)
    (f : FirstPiece s a p n) where
  abbrev number : ℕ
  number = a.start.0

  abbrev slot : Incoming
  slot = block_of a.byte a.channel a.start a.fragment

  pub no_block : blocks p.incoming (used_in p.lists (counted p)) ≡ 0
  no_block = go (eqb (blocks p.incoming (used_in p.lists (counted p))) 0) refl f.alone
    where
      go : (b : Bool) → eqb (blocks p.incoming (used_in p.lists (counted p))) 0 ≡ b → not b ≡ false → blocks p.incoming (used_in p.lists (counted p)) ≡ 0
      go true t e = eqb-true (blocks p.incoming (used_in p.lists (counted p))) 0 t
      go false t e = let z : ◌≡◌ {A = ℕ} 0 1 = cc in absurd (omega arith)

  -- "0 with no block"
  pub no_marks_lem : p.marks ≡ no_marks
  no_marks_lem =
      let low = eqb p.marks.low 0 in
      let high = eqb p.marks.high 0 in
      let zero : both low high ≡ true = sym (ap (one_block p.marks) no_block) ∙ (incoming_clauses p good).block in
      ap (λ (k : ℕ). marks_of k p.marks.high) (eqb-true p.marks.low 0 (both_left low high zero))
      ∙ ap (λ (k : ℕ). marks_of 0 k) (eqb-true p.marks.high 0 (both_right low high zero))

  pub opened_block : is_block slot ≡ true
  opened_block = ap not (ne_eqb a.fragment.count 0 (λ z. omega (arith, z, (fields_fit_lem s.packet a.fragment f.fit).some)))

  opened_kind : kind_fit p.marks slot ≡ true
  opened_kind =
      ap (λ (b : Bool). pick b (block_fit p.marks slot) (leb slot.length cell)) opened_block
      ∙ ap (λ (m : Marks). block_fit m slot) no_marks_lem
      ∙ new_fit s.packet a.byte a.channel a.start a.fragment f.fit

  pub opened_sound : sound (opened_on n a p) ≡ true
  opened_sound =
      let used = blocks p.incoming (used_in p.lists (counted p)) in
      let one : 1 + used ≡ 1 = omega (arith, no_block) in
      joined-sound p a.channel number n slot whole good on f.free refl opened_kind
      (ap (λ (b : Bool). one_block p.marks (pick b 1 0 + used)) opened_block ∙ ap (one_block p.marks) one)

  pub opened_whole : Whole (opened_on n a p)
  opened_whole = joined_whole p a.channel number n slot whole good on f.free

  pub opened_slot : get_or (opened_on n a p).incoming n no_incoming ≡ slot
  opened_slot = get_or-set_same p.incoming n slot no_incoming (in_pool p a.channel number n slot whole good on f.free)

  -- where it stands in its channel's list, and any sum over what is named has one more
  abbrev place : ℕ
  place =
      let c = channel_of a p in
      place_of p.incoming (in_items c.held) c.incoming_reliable.0 (number_distance c.incoming_reliable.0 number)

  pub opened_items : in_items (held_with p.incoming (channel_of a p) number n).held
      ≡ take place (in_items (channel_of a p).held) ++ (n ∷ drop place (in_items (channel_of a p).held))
  opened_items = joined_items p a.channel number n slot whole good on f.free

  pub opened_channel : get_or (opened_on n a p).channels a.channel no_channel ≡ held_with p.incoming (channel_of a p) number n
  opened_channel = get_or-set_same p.channels a.channel _ no_channel (at_all_channels p a.channel number n slot whole good on f.free)

  pub opened_by : (g : List ℕ → ℕ) → ((xs ys : List ℕ) → g (xs ++ ys) ≡ g xs + g ys)
      → g (used_in p.lists (below (opened_on n a p).channels p.standing.channels)) ≡ g (n ∷ []) + g (used_in p.lists (counted p))
  opened_by g adds =
      ap (λ (ds : List Channel). g (used_in p.lists ds)) (now p a.channel number n slot whole good on f.free)
      ∙ joined_by p a.channel number n slot whole good on f.free g adds

  pub opened_named : 0 < times (used_in p.lists (below (opened_on n a p).channels p.standing.channels)) n
  opened_named =
      omega (arith, first_here, opened_by (λ (xs : List ℕ). times xs n) (λ xs ys. times_append xs ys n))
    where
      first_here : times (n ∷ []) n ≡ 1
      first_here = rw (eq-eqb n n refl)

  pub opened_pieced_sound : sound (pieced_on n a (opened_on n a p)) ≡ true
  opened_pieced_sound =
      pieced_on-sound n a (opened_on n a p) opened_whole opened_sound opened_named (ap is_block opened_slot ∙ opened_block) low
      (ap (λ (m : Marks). piece_marked m a.fragment.number) no_marks_lem ∙ marked_none a.fragment.number)
    where
      low : a.fragment.number < (get_or (opened_on n a p).incoming n no_incoming).fragments
      low = rw opened_slot (fields_fit_lem s.packet a.fragment f.fit).number

  pub opened_pieced_whole : Whole (pieced_on n a (opened_on n a p))
  opened_pieced_whole = pieced_on_whole n a (opened_on n a p) opened_whole

  pub first_sound : sound (piece_on n a (opened_on n a p)) ≡ true
  first_sound = finished_sound n a (pieced_on n a (opened_on n a p)) opened_pieced_whole opened_pieced_sound on

-- ---- a later piece
module _ (s : Settings) (a : Piece) (p : Peer) (n : ℕ) (whole : Whole p) (good : sound p ≡ true) (on : a.channel < p.standing.channels)
    (f : LaterPiece s a p n) where
  pub later_named : 0 < times (used_in p.lists (counted p)) n
  later_named =
      let here : a.channel < length (counted p) = omega (arith, on, count_high p good, whole.channels, length-take p.standing.channels p.channels) in
      let old_is : get_or (counted p) a.channel no_channel ≡ channel_of a p = get_or-take p.standing.channels p.channels a.channel no_channel on in
      let within = rw old_is at (held_within (λ (xs : List ℕ). times xs n) (λ xs ys. times_append xs ys n) (counted p) a.channel no_channel here) in
      omega (arith, f.found.named, within, times_append (in_items p.lists.dispatched) (held (counted p)) n)

  pub later_block : is_block (get_or p.incoming n no_incoming) ≡ true
  later_block = unfinished_block a.start.0 (get_or p.incoming n no_incoming) f.found.is

  pub pieced_sound : sound (pieced_on n a p) ≡ true
  pieced_sound = pieced_on-sound n a p whole good later_named later_block low f.new
    where
      low : a.fragment.number < (get_or p.incoming n no_incoming).fragments
      low =
          omega (
            arith,
            (fields_fit_lem s.packet a.fragment f.fit).number,
            like_count a.fragment (get_or p.incoming n no_incoming) f.like,
          )

  pub pieced_whole : Whole (pieced_on n a p)
  pieced_whole = pieced_on_whole n a p whole

  pub later_sound : sound (piece_on n a p) ≡ true
  later_sound = finished_sound n a (pieced_on n a p) pieced_whole pieced_sound on

-- ---- the call
module _ (s : Settings) (a : Piece) (datagram store second : List ℕ) where
  abbrev on : Peer → State
  on p = record { peer = p; store = store; second = second }

  stays : (p : Peer) → Whole p → sound p ≡ true → sound (fragment_sound s a datagram (on p)).after.peer ≡ true
  stays p whole good =
      behind_has (arrival_gate send_fragment (arrival_of a) s p.standing (length datagram)) (on p) _ (λ (o : Outcome State). sound o.after.peer ≡ true)
      (λ why. good) (λ own. by_fate (admitted send_fragment (arrival_of a) s p.standing (length datagram) own).on (fate_on s a p) refl)
    where
      by_fate : a.channel < p.standing.channels → (f : Fate) → fate_on s a p ≡ f → sound (fragment_after f a datagram (on p)).peer ≡ true
      by_fate here fate.Passed e = good
      by_fate here fate.Unfit e = good
      by_fate here fate.NoRoom e = good
      by_fate here (fate.First n) e = first_sound s a p n whole good here (first_piece s a p n e)
      by_fate here (fate.Later n) e = later_sound s a p n whole good here (later_piece s a p n e)

  stays_whole : (p : Peer) → Whole p → Whole (fragment_sound s a datagram (on p)).after.peer
  stays_whole p l =
      behind_has (arrival_gate send_fragment (arrival_of a) s p.standing (length datagram)) (on p) _ (λ (o : Outcome State). Whole o.after.peer)
      (λ why. l) (λ own. by_fate (fate_on s a p))
    where
      opened : (n : ℕ) → Whole (opened_on n a p)
      opened n =
          record {
            channels = length-set p.channels a.channel _ ∙ l.channels;
            outgoing = l.outgoing;
            incoming = length-set p.incoming n _ ∙ l.incoming;
          }

      by_fate : (f : Fate) → Whole (fragment_after f a datagram (on p)).peer
      by_fate fate.Passed = l
      by_fate fate.Unfit = l
      by_fate fate.NoRoom = l
      by_fate (fate.First n) = finished_whole n a (pieced_on n a (opened_on n a p)) (pieced_on_whole n a (opened_on n a p) (opened n))
      by_fate (fate.Later n) = finished_whole n a (pieced_on n a p) (pieced_on_whole n a p l)

  pub fragment_sounds : Sounds (λ (p : Peer). on_peer (arrives_fragment s a datagram (on p)))
  fragment_sounds =
      lent_sounds (λ (y : State). y.peer) on (λ p. refl) s (Both (length store) (length second)) (λ (p : Peer). fragment_sound s a datagram (on p)) stays
      stays_whole
