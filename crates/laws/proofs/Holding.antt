-- A slot that was free joins the incoming pool and its channel's list, as a reliable packet or a block (C-11) does: the record stays sound and whole.
-- The argument: the list has the slot at one place more, so every sum over the slots named has the slot's own part more; then the pool's law of a joined slot.
use Rattle.std.specs.Prelude.{Some}
use Prim.Native.Nat.{ℕ, ◌+◌, ◌≤◌, ◌<◌}
use mathlib.Core.Path.{◌≡◌, refl, ap, ◌∙◌}
use mathlib.Core.Bool.{Bool, true, false}
use mathlib.Core.Logic.{◌⊎◌, inl, inr}
use mathlib.Core.List.{List, [], ◌∷◌, ◌++◌}
use native.Mathlib.Omega.{arith}
use lib.Dec.{eqb}
use lib.ListN.{length, take, drop, get_or, set, length-set, length-append, length-take, take-append-drop}
use lib.Seq.{get_or-set_same, take-set-lt, get_or-take}
use borrow.Author.Tests.{eqb-true, lt-ltb}
use Rattle.numbers.specs.Pick.{pick}
use Rattle.numbers.specs.Modulo.{sum}
use Rattle.record.specs.Lists.{incoming, in_items}
use Rattle.record.proofs.Keeps.{one, times, times_append}
use Rattle.record.proofs.Views.{in_items_keep}
use Rattle.cells.specs.Runs.{inserted}
use Rattle.damage.proofs.SumLaws.{sum_append, blocks_append}
use Rattle.record.specs.Blocks.{is_block}
use Rattle.record.specs.Damage.{below, held, held_fit, kind_fit, in_sound, lengths, blocks, one_block, used_in}
use Rattle.record.specs.Fresh.{no_channel, no_incoming}
use Rattle.record.specs.declared.groups.Channel.{Channel}
use Rattle.record.specs.declared.groups.Incoming.{Incoming}
use Rattle.peer.specs.Damage.{sound}
use Rattle.peer.specs.Sounds.{Whole}
use Rattle.peer.specs.Updates.{with_arrival}
use Rattle.peer.specs.declared.Peer.{Peer}
use Rattle.peer.proofs.Clauses.{sound_clauses, clauses_sound}
use Rattle.peer.proofs.InClauses.{InClauses, incoming_clauses, clauses_in}
use Rattle.peer.proofs.Ranges.{count_high}
use Rattle.arrival.specs.Storing.{free_slot, awaiting}
use Rattle.dispatch.proofs.Sums.{held-set, held_within}
use Rattle.dispatch.proofs.Sound.{fit_set, own-set}
use Rattle.arrive_reliable.specs.Holding.{number_distance, place_of, held_with}
use Rattle.laws.proofs.Pools.{free_exists, free_unnamed, free_room, lengths_own, own_unnamed, joined_clauses}

-- slot n, free before, in its channel's list
module _ (q : Peer) (i number n : ℕ) (slot : Incoming) (whole : Whole q) (good : sound q ≡ true) (on : i < q.standing.channels)
    (free : free_slot q.lists q.channels q.standing.channels ≡ Some n) where
  abbrev cs : List Channel
  cs = below q.channels q.standing.channels

  abbrev clauses : InClauses q.marks q.incoming q.lists cs q.standing.channels q.waiting.total
  clauses = incoming_clauses q good

  abbrev old : Channel
  old = get_or q.channels i no_channel

  abbrev new : Channel
  new = held_with q.incoming old number n

  abbrev pool : List Incoming
  pool = set q.incoming n slot

  abbrev pub joined : Peer
  joined = with_arrival q q.lists q.unsequenced (awaiting q.waiting slot.length) (set q.channels i new) pool

  pub at_all_channels : i < length q.channels
  at_all_channels = omega (arith, on, count_high q good, whole.channels)

  here : i < length cs
  here = omega (arith, on, count_high q good, whole.channels, length-take q.standing.channels q.channels)

  old_is : get_or cs i no_channel ≡ old
  old_is = get_or-take q.standing.channels q.channels i no_channel on

  room : length (in_items old.held) < incoming
  room =
      let within = rw old_is at (held_within length length-append cs i no_channel here) in
      omega (
        arith,
        free_room q.marks q.incoming q.lists cs q.standing.channels q.waiting.total clauses n free,
        length-append (in_items q.lists.dispatched) (held cs),
        within,
      )

  abbrev place : ℕ
  place = place_of q.incoming (in_items old.held) old.incoming_reliable.0 (number_distance old.incoming_reliable.0 number)

  pub joined_items : in_items new.held ≡ take place (in_items old.held) ++ (n ∷ drop place (in_items old.held))
  joined_items =
      let items = in_items old.held in
      in_items_keep old.held (inserted incoming items place n)
      ∙ ap (λ (b : Bool). pick b (take place items ++ (n ∷ drop place items)) items) (lt-ltb (length items) incoming room)

  -- any sum over what is named has one more
  list_more : (f : List ℕ → ℕ) → ((xs ys : List ℕ) → f (xs ++ ys) ≡ f xs + f ys) → f (in_items new.held) ≡ f (n ∷ []) + f (in_items old.held)
  list_more f adds =
      let items = in_items old.held in
      let cut = ap f (take-append-drop place items) in
      omega (
        arith,
        ap f joined_items,
        adds (take place items) (n ∷ drop place items),
        adds (n ∷ []) (drop place items),
        cut,
        adds (take place items) (drop place items),
      )

  pub joined_by : (f : List ℕ → ℕ) → ((xs ys : List ℕ) → f (xs ++ ys) ≡ f xs + f ys)
      → f (used_in q.lists (set cs i new)) ≡ f (n ∷ []) + f (used_in q.lists cs)
  joined_by f adds =
      let items = in_items q.lists.dispatched in
      let one_list = rw old_is at (held-set f adds cs i new no_channel here) in
      omega (arith, adds items (held (set cs i new)), adds items (held cs), one_list, list_more f adds)

  pub now : below (set q.channels i new) q.standing.channels ≡ set cs i new
  now = take-set-lt q.standing.channels q.channels i new on

  pub exists : n < incoming
  exists = free_exists q.marks q.incoming q.lists cs q.standing.channels q.waiting.total clauses n free

  pub in_pool : n < length q.incoming
  in_pool = omega (arith, exists, whole.incoming)

  pub unnamed : times (used_in q.lists cs) n ≡ 0
  unnamed = free_unnamed q.marks q.incoming q.lists cs q.standing.channels q.waiting.total clauses n free

  pub joined_whole : Whole joined
  joined_whole =
      record {
        channels = length-set q.channels i new ∙ whole.channels;
        outgoing = whole.outgoing;
        incoming = length-set q.incoming n slot ∙ whole.incoming;
      }

  -- its slot is of the channel, fits the marks, and leaves at most one block
  module _ (of : slot.channel ≡ i) (kind : kind_fit q.marks slot ≡ true)
      (single : one_block q.marks (pick (is_block slot) 1 0 + blocks q.incoming (used_in q.lists cs)) ≡ true) where
    -- what the list names stood there before, or is the slot, which is of the channel
    known : (k : ℕ) → 0 < times (in_items new.held) k
        → (0 < times (in_items (get_or cs i no_channel).held) k) ⊎ ((get_or pool k no_incoming).channel ≡ 0 + i)
    known k h = go (eqb n k) refl
      where
        go : (b : Bool) → eqb n k ≡ b → (0 < times (in_items (get_or cs i no_channel).held) k) ⊎ ((get_or pool k no_incoming).channel ≡ 0 + i)
        go true t =
            let at : get_or pool k no_incoming ≡ slot = rw (← eqb-true n k t) (get_or-set_same q.incoming n slot no_incoming in_pool) in
            inr (omega (arith, of, ap (λ (j : Incoming). j.channel) at))
        go false t =
            let none : one n k ≡ 0 = rw t in
            inl (rw old_is (omega (arith, h, none, list_more (λ (xs : List ℕ). times xs k) (λ xs ys. times_append xs ys k))))

    new_fits : new.held.len ≤ incoming
    new_fits =
        let items = in_items old.held in
        let is : inserted incoming items place n ≡ take place items ++ (n ∷ drop place items) =
        ap (λ (b : Bool). pick b (take place items ++ (n ∷ drop place items)) items) (lt-ltb (length items) incoming room) in
        let long = ap length is in
        omega (
          arith,
          long,
          length-append (take place items) (n ∷ drop place items),
          ap length (take-append-drop place items),
          length-append (take place items) (drop place items),
          room,
        )

    pub joined-sound : sound joined ≡ true
    joined-sound =
        let w = sound_clauses q good in
        let count = q.standing.channels in
        let total = sum 32 q.waiting.total slot.length in
        let apart = times_append (in_items q.lists.dispatched) (held cs) n in
        clauses_sound joined
        (record {
          range = w.range;
          lists = w.lists;
          held = ap held_fit now ∙ fit_set cs i new w.held new_fits;
          exists = w.exists;
          single = w.single;
          fit = w.fit;
          sent = w.sent;
          arrived =
              ap (λ (ds : List Channel). in_sound q.marks pool q.lists ds count total) now
              ∙ clauses_in q.marks pool q.lists (set cs i new) count total
              (joined_clauses q.incoming n slot in_pool q.marks q.lists q.lists cs (set cs i new) count q.waiting.total clauses unnamed exists
              kind (omega (arith, of, on))
              (λ k. omega (arith, joined_by (λ (xs : List ℕ). times xs k) (λ xs ys. times_append xs ys k)))
              (own-set pool 0 cs i new (own_unnamed q.incoming n slot in_pool 0 cs (omega (arith, apart, unnamed)) clauses.own) known)
              (omega (arith, joined_by (lengths pool) (sum_append pool), lengths_own q.incoming n slot in_pool))
              (joined_by (blocks pool) (blocks_append pool)) single);
        })
