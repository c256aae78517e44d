-- A channel's list in order, with nothing ready (`Orderly`), through what changes a record: a dispatch, a slot that joins a list, a piece of a block.
-- The argument: a dispatch takes what is ready and leaves the rest in order; a slot that joins was free, so that no list named it, and takes its place by its
-- distance; a piece changes what remains of its block alone, and a block belongs to one channel. Another channel's list is as it was.
use Rattle.std.specs.Prelude.{Some}
use Prim.Native.Nat.{ℕ, zero, suc, ◌+◌, ◌≤◌, ◌<◌}
use mathlib.Core.Path.{◌≡◌, refl, ap, sym, subst, ◌∙◌}
use mathlib.Core.Bool.{Bool, true, false}
use mathlib.Core.List.{List, [], ◌∷◌, ◌++◌}
use native.Mathlib.Omega.{arith}
use lib.Dec.{eqb}
use lib.ListN.{length, take, drop, get_or, set, length-take, take-append-drop}
use lib.Seq.{get_or-set_same, get_or-set_other, get_or-take}
use borrow.Author.Tests.{eqb-true, eqb-false, ne_eqb}
use Rattle.numbers.specs.declared.counters.Reliable.{Reliable}
use Rattle.numbers.proofs.BoolLaws.{both_left, both_right}
use Rattle.record.specs.Lists.{in_items}
use Rattle.record.specs.declared.incoming.InList.{InList}
use Rattle.record.proofs.Keeps.{one, times, times_append}
use Rattle.record.specs.Damage.{all, below, held, own}
use Rattle.record.specs.Fresh.{no_channel, no_incoming}
use Rattle.record.specs.declared.groups.Channel.{Channel}
use Rattle.record.specs.declared.groups.Incoming.{Incoming}
use Rattle.blocks.specs.Blocks.{one_less}
use Rattle.peer.specs.Damage.{sound}
use Rattle.peer.specs.Sounds.{Whole}
use Rattle.peer.specs.declared.Peer.{Peer}
use Rattle.peer.proofs.Ranges.{count_high}
use Rattle.peer.proofs.Clauses.{all_at}
use Rattle.peer.proofs.InClauses.{incoming_clauses}
use Rattle.dispatch.specs.Dispatching.{follows, ready_last}
use Rattle.dispatch.specs.Calls.{dispatched_on}
use Rattle.dispatch.proofs.Sums.{held_within}
use Rattle.dispatch.proofs.Moving.{dispatch_order}
use Rattle.arrival.specs.Storing.{free_slot}
use Rattle.arrive_reliable.specs.Holding.{number_distance, number_at, place_of, held_with}
use Rattle.arrive_fragment.specs.Pieces.{channel_of}
use Rattle.arrive_fragment.specs.Calls.{pieced_on, piece_on}
use Rattle.arrive_fragment.specs.declared.Piece.{Piece}
use Rattle.laws.proofs.Pools.{free_unnamed}
use Rattle.laws.proofs.Holding.{joined, joined_items, in_pool}
use Rattle.laws.proofs.Fragments.{finished_has}
use Rattle.promises.specs.Held.{span_at, is_apart}
use Rattle.promises.proofs.Unreported.{part_set, Unreported}
use Rattle.promises.proofs.Reporting.{last_on, ready_last_lem, now_last}
use Rattle.promises.proofs.HeldLaws.{span_of, Stands, Rests, Alike, stands_alike, rests_with, left_rests, unnamed_same, placed_climbs}

-- ---- what stands along a run, on one channel
abbrev pub on : ℕ → Peer → Channel
on channel p = get_or p.channels channel no_channel

abbrev pub items_on : ℕ → Peer → List ℕ
items_on channel p = in_items (on channel p).held

module _ (channel : ℕ) where
  abbrev pub StandsAt : Peer → Type 0
  StandsAt p = Stands p.incoming (last_on channel p) (items_on channel p)

  abbrev pub Orderly : Peer → Type 0
  Orderly p = channel < p.standing.channels → Rests p.incoming (last_on channel p) (items_on channel p)

  -- the last number and the held list as they were, and the slots that it names
  pub same_named : (p q : Peer) → q.standing.channels ≡ p.standing.channels → (on channel q).incoming_reliable ≡ (on channel p).incoming_reliable
      → (on channel q).held ≡ (on channel p).held
      → (channel < p.standing.channels → (s : ℕ) → 0 < times (items_on channel p) s → get_or q.incoming s no_incoming ≡ get_or p.incoming s no_incoming)
      → Orderly p → Orderly q
  same_named p q count last list slots k h =
      let there = subst (λ (n : ℕ). channel < n) count h in
      subst (λ (r : Reliable). Rests q.incoming r.0 (items_on channel q)) (sym last)
      (subst (λ (l : InList). Rests q.incoming (last_on channel p) (in_items l)) (sym list)
      (rests_with p.incoming q.incoming (last_on channel p) (items_on channel p) (slots there) (k there)))

  pub unreported_orderly : (p q : Peer) → Unreported channel p q → Orderly p → Orderly q
  unreported_orderly p q s k =
      same_named p q s.count s.last s.held (λ h n named. ap (λ (js : List Incoming). get_or js n no_incoming) s.slots) k

  -- ---- a dispatch, on the channel and on another
  own_dispatched : (p : Peer) → Whole p → sound p ≡ true → channel < p.standing.channels → StandsAt p → Orderly (dispatched_on channel p)
  own_dispatched p whole good h c =
      let ss = items_on channel p in
      let last_is = now_last channel p whole good h ∙ sym (ready_last_lem p.incoming ss (last_on channel p)) in
      λ k.
      subst (λ (n : ℕ). Rests p.incoming n (items_on channel (dispatched_on channel p))) (sym last_is)
      (subst (Rests p.incoming (ready_last p.incoming ss (last_on channel p))) (sym (dispatch_order channel p whole good h).left)
      (left_rests p.incoming ss (last_on channel p) c))

  other_dispatched : (i : ℕ) (p : Peer) → (channel ≡ i → ⊥) → Orderly p → Orderly (dispatched_on i p)
  other_dispatched i p n k =
      let same : on channel (dispatched_on i p) ≡ on channel p = get_or-set_other p.channels i channel _ no_channel n in
      same_named p (dispatched_on i p) refl (ap (λ (c : Channel). c.incoming_reliable) same) (ap (λ (c : Channel). c.held) same) (λ h s named. refl) k

  pub dispatched_orderly : (i : ℕ) (p : Peer) → Whole p → sound p ≡ true → i < p.standing.channels
      → (channel ≡ i → channel < p.standing.channels → StandsAt p) → ((channel ≡ i → ⊥) → Orderly p) → Orderly (dispatched_on i p)
  dispatched_orderly i p whole good here c k = go (eqb channel i) refl
    where
      go : (b : Bool) → eqb channel i ≡ b → Orderly (dispatched_on i p)
      go true e =
          let is : channel ≡ i = eqb-true channel i e in
          let there : channel < p.standing.channels = subst (λ (j : ℕ). j < p.standing.channels) (sym is) here in
          subst (λ (j : ℕ). Orderly (dispatched_on j p)) is (own_dispatched p whole good there (c is there))
      go false e = let n = eqb-false channel i e in other_dispatched i p n (k n)

  -- ---- a slot that is free is not named
  pub unnamed : (p : Peer) (n : ℕ) → Whole p → sound p ≡ true → free_slot p.lists p.channels p.standing.channels ≡ Some n
      → channel < p.standing.channels → times (items_on channel p) n ≡ 0
  unnamed p n w good free h =
      let cs = below p.channels p.standing.channels in
      let here : channel < length cs = omega (arith, h, count_high p good, w.channels, length-take p.standing.channels p.channels) in
      let is : get_or cs channel no_channel ≡ on channel p = get_or-take p.standing.channels p.channels channel no_channel h in
      let none = free_unnamed p.marks p.incoming p.lists cs p.standing.channels p.waiting.total (incoming_clauses p good) n free in
      let named : List ℕ → ℕ = λ xs. times xs n in
      let within = held_within named (λ xs ys. times_append xs ys n) cs channel no_channel here in
      let within_now = subst (λ (c : Channel). times (in_items c.held) n ≤ times (held cs) n) is within in
      omega (arith, none, times_append (in_items p.lists.dispatched) (held cs) n, within_now)

-- what a list with a slot at one place more names, but the slot, it named before
inserted_named : (xs : List ℕ) (k n s : ℕ) → 0 < times (take k xs ++ (n ∷ drop k xs)) s → (n ≡ s → ⊥) → 0 < times xs s
inserted_named xs k n s h m =
    let none : one n s ≡ 0 = rw (ne_eqb n s m) in
    omega (
      arith,
      h,
      none,
      times_append (take k xs) (n ∷ drop k xs) s,
      times_append (take k xs) (drop k xs) s,
      ap (λ (ys : List ℕ). times ys s) (take-append-drop k xs),
    )

-- ---- a record in which slot n joined channel i's list, or stands there: on that channel the order stands and all but the slot wait, another's list does not name it
pub record Ways (channel i n : ℕ) (r : Peer) : Type 0 where
  pub own : channel ≡ i → channel < r.standing.channels → StandsAt channel r
  pub others : channel ≡ i → channel < r.standing.channels → (s : ℕ) → 0 < times (items_on channel r) s → (n ≡ s → ⊥)
      → follows (last_on channel r) (get_or r.incoming s no_incoming) ≡ false
  pub other : (channel ≡ i → ⊥) → Orderly channel r
  pub unnamed : (channel ≡ i → ⊥) → channel < r.standing.channels → times (items_on channel r) n ≡ 0

-- ---- a slot that joins a list
module _ (q : Peer) (i n : ℕ) (slot : Incoming) (whole : Whole q) (good : sound q ≡ true) (here : i < q.standing.channels)
    (free : free_slot q.lists q.channels q.standing.channels ≡ Some n) where
  abbrev pub longer : Peer
  longer = joined q i slot.number.0 n slot whole good here free

  module _ (channel : ℕ) (low : slot.number.0 < 65536) (past : 0 < number_distance (on i q).incoming_reliable.0 slot.number.0)
      (apart : let last = (on i q).incoming_reliable.0 in
      all (λ (s : ℕ). is_apart (number_distance last slot.number.0) (span_of slot) (number_distance last (number_at q.incoming s)) (span_at q.incoming s))
      (items_on i q) ≡ true)
      (k : Orderly channel q) where
    abbrev pool : List Incoming
    pool = set q.incoming n slot

    abbrev last : ℕ
    last = (on i q).incoming_reliable.0

    abbrev items : List ℕ
    items = items_on i q

    abbrev place : ℕ
    place = place_of q.incoming items last (number_distance last slot.number.0)

    longer_is : on i longer ≡ held_with q.incoming (on i q) slot.number.0 n
    longer_is = get_or-set_same q.channels i _ no_channel (omega (arith, here, count_high q good, whole.channels))

    own_stands : Rests q.incoming last items → StandsAt i longer
    own_stands r =
        subst (λ (c : Channel). Stands pool c.incoming_reliable.0 (in_items c.held)) (sym longer_is)
        (subst (Stands pool last) (sym (joined_items q i slot.number.0 n slot whole good here free))
        (record {
          low = r.stands.low;
          climbs =
              placed_climbs q.incoming n slot last (in_pool q i slot.number.0 n slot whole good here free) low 0 items
              (unnamed i q n whole good free here) apart past r.stands.climbs;
        }))

    own_others : Rests q.incoming last items → (s : ℕ) → 0 < times (items_on i longer) s → (n ≡ s → ⊥)
        → follows (last_on i longer) (get_or pool s no_incoming) ≡ false
    own_others r s named m =
        let list = ap (λ (c : Channel). in_items c.held) longer_is ∙ joined_items q i slot.number.0 n slot whole good here free in
        let before = inserted_named items place n s (subst (λ (xs : List ℕ). 0 < times xs s) list named) m in
        ap (λ (c : Channel). follows c.incoming_reliable.0 (get_or pool s no_incoming)) longer_is
        ∙ ap (follows last) (get_or-set_other q.incoming n s slot no_incoming (λ z. m (sym z)))
        ∙ r.waits s before

    pub joined_ways : Ways channel i n longer
    joined_ways =
        record {
          own = λ is h. subst (λ (j : ℕ). StandsAt j longer) (sym is) (own_stands (rests is));
          others = λ is h.
              subst (λ (j : ℕ). (s : ℕ) → 0 < times (items_on j longer) s → (n ≡ s → ⊥) → follows (last_on j longer) (get_or pool s no_incoming) ≡ false) (sym is)
              (own_others (rests is));
          other = λ m.
              same_named channel q longer refl (ap (λ (c : Channel). c.incoming_reliable) (same m)) (ap (λ (c : Channel). c.held) (same m))
              (λ h. unnamed_same q.incoming n slot (items_on channel q) (unnamed channel q n whole good free h)) k;
          unnamed = λ m h. ap (λ (c : Channel). times (in_items c.held) n) (same m) ∙ unnamed channel q n whole good free h;
        }
      where
        rests : channel ≡ i → Rests q.incoming last items
        rests is = subst (λ (j : ℕ). Orderly j q) is k here

        same : (channel ≡ i → ⊥) → on channel longer ≡ on channel q
        same m = get_or-set_other q.channels i channel _ no_channel m

-- ---- a piece of the block in slot n, on the record r that holds the block
-- what does not remain is not ready
unready : (last : ℕ) (i : Incoming) → (i.remaining ≡ 0 → ⊥) → follows last i ≡ false
unready last i some = rw (ne_eqb i.remaining 0 some)

module _ (channel n : ℕ) (a : Piece) (r : Peer) where
  abbrev now : Peer
  now = pieced_on n a r

  abbrev old : Incoming
  old = get_or r.incoming n no_incoming

  module _ (whole : Whole now) (good : sound now ≡ true) (here : a.channel < r.standing.channels) (v : Ways channel a.channel n r) where
    alike : (s : ℕ) → Alike (get_or now.incoming s no_incoming) (get_or r.incoming s no_incoming)
    alike s =
        record {
          number = part_set (λ (i : Incoming). i.number.0) r.incoming n (one_less old) no_incoming s refl;
          fragments = part_set (λ (i : Incoming). i.fragments) r.incoming n (one_less old) no_incoming s refl;
        }

    stands_now : channel ≡ a.channel → channel < r.standing.channels → StandsAt channel now
    stands_now is h =
        stands_alike r.incoming now.incoming (last_on channel r) (items_on channel r) (λ s named. alike s) (v.own is h)

    -- some of it remains
    rests_now : ((get_or now.incoming n no_incoming).remaining ≡ 0 → ⊥) → channel ≡ a.channel → Orderly channel now
    rests_now some is h = record { stands = stands_now is h; waits = λ s named. go s named (eqb n s) refl }
      where
        go : (s : ℕ) → 0 < times (items_on channel r) s → (b : Bool) → eqb n s ≡ b
            → follows (last_on channel r) (get_or now.incoming s no_incoming) ≡ false
        go s named true e =
            subst (λ (j : ℕ). follows (last_on channel r) (get_or now.incoming j no_incoming) ≡ false) (eqb-true n s e)
            (unready (last_on channel r) (get_or now.incoming n no_incoming) some)
        go s named false e =
            let m = eqb-false n s e in
            ap (follows (last_on channel r)) (get_or-set_other r.incoming n s (one_less old) no_incoming (λ z. m (sym z)))
            ∙ v.others is h s named m

    elsewhere : (channel ≡ a.channel → ⊥) → Orderly channel now
    elsewhere m =
        same_named channel r now refl refl refl (λ h. unnamed_same r.incoming n (one_less old) (items_on channel r) (v.unnamed m h)) (v.other m)

    pub piece_orderly : Orderly channel (piece_on n a r)
    piece_orderly =
        finished_has n a now (Orderly channel)
        (λ none. dispatched_orderly channel a.channel now whole good here stands_now elsewhere)
        (λ some. go some (eqb channel a.channel) refl)
      where
        go : ((get_or now.incoming n no_incoming).remaining ≡ 0 → ⊥) → (b : Bool) → eqb channel a.channel ≡ b → Orderly channel now
        go some true e = rests_now some (eqb-true channel a.channel e)
        go some false e = elsewhere (eqb-false channel a.channel e)

-- ---- a slot that one channel's list names is that channel's, and no other's list names it
own_at : (slots : List Incoming) (j : ℕ) (cs : List Channel) (i s : ℕ) → own slots j cs ≡ true → i < length cs
    → 0 < times (in_items (get_or cs i no_channel).held) s → (get_or slots s no_incoming).channel ≡ j + i
unfolding own
own_at slots j [] i s e h named = absurd (omega (arith, h))
own_at slots j (c ∷ cs) zero s e h named =
    let f : ℕ → Bool = λ t. eqb (get_or slots t no_incoming).channel j in
    let is = eqb-true (get_or slots s no_incoming).channel j
    (all_at f (in_items c.held) (both_left (all f (in_items c.held)) (own slots (j + 1) cs) e) s named) in
    omega (arith, is)
own_at slots j (c ∷ cs) (suc i) s e h named =
    let f : ℕ → Bool = λ t. eqb (get_or slots t no_incoming).channel j in
    let is = own_at slots (j + 1) cs i s (both_right (all f (in_items c.held)) (own slots (j + 1) cs) e) (omega (arith, h)) named in
    omega (arith, is)

pub later_unnamed : (channel : ℕ) (a : Piece) (p : Peer) (n : ℕ) → Whole p → sound p ≡ true → a.channel < p.standing.channels
    → 0 < times (in_items (channel_of a p).held) n → (channel ≡ a.channel → ⊥) → channel < p.standing.channels → times (items_on channel p) n ≡ 0
later_unnamed channel a p n w good here named m h = go (eqb (times (items_on channel p) n) 0) refl
  where
    cs : List Channel
    cs = below p.channels p.standing.channels

    its : (i : ℕ) → i < p.standing.channels → 0 < times (items_on i p) n → (get_or p.incoming n no_incoming).channel ≡ 0 + i
    its i l t =
        let long : i < length cs = omega (arith, l, count_high p good, w.channels, length-take p.standing.channels p.channels) in
        let is : get_or cs i no_channel ≡ on i p = get_or-take p.standing.channels p.channels i no_channel l in
        own_at p.incoming 0 cs i n (incoming_clauses p good).own long (subst (λ (c : Channel). 0 < times (in_items c.held) n) (sym is) t)

    go : (b : Bool) → eqb (times (items_on channel p) n) 0 ≡ b → times (items_on channel p) n ≡ 0
    go true e = eqb-true (times (items_on channel p) n) 0 e
    go false e =
        let some = eqb-false (times (items_on channel p) n) 0 e in
        let this = its channel h (omega (arith, some)) in
        let that = its a.channel here named in
        absurd (m (omega (arith, this, that)))
