-- The arrival of a piece (C-11) on two records that are the same: one answer, the same stores, and what is left is alike, the slots named included.
-- The argument: which block a piece is of and what becomes of it go by slots named, by the free slot and by the marks, equal on both sides; a first piece
-- writes the same free slot, a piece its own block's slot, named in both, and a block that is complete then goes as dispatch lets it go (AlikeIn).
use Rattle.std.specs.Prelude.{None, Option, Some}
use Prim.Native.Nat.{ℕ, ◌+◌, ◌≤◌, ◌<◌}
use mathlib.Core.Path.{◌≡◌, refl, ap, ap₂, sym, subst, ◌∙◌}
use mathlib.Core.Bool.{Bool, true, false, not}
use mathlib.Core.List.{List, [], ◌∷◌}
use native.Mathlib.Omega.{arith}
use lib.Dec.{eqb}
use lib.ListN.{length, get_or, length-set}
use borrow.Author.Tests.{eqb-true}
use Rattle.numbers.specs.Pick.{pick, both}
use Rattle.record.specs.Lists.{in_items}
use Rattle.record.proofs.Keeps.{one, times}
use Rattle.record.specs.Sizes as sizes
use Rattle.record.specs.Fresh.{no_incoming}
use Rattle.record.specs.Marks.{piece_marked, with_piece}
use Rattle.record.specs.Blocks.{is_block}
use Rattle.record.specs.Damage.{blocks}
use Rattle.record.specs.declared.groups.Standing.{Standing}
use Rattle.record.specs.declared.groups.Waiting.{Waiting}
use Rattle.record.specs.declared.groups.Channel.{Channel}
use Rattle.record.specs.declared.groups.Incoming.{Incoming}
use Rattle.record.specs.declared.groups.Marks.{Marks}
use Rattle.blocks.specs.Blocks.{fields_fit, like_first, block_of, one_less}
use Rattle.peer.specs.Damage.{sound}
use Rattle.peer.specs.Sounds.{Whole}
use Rattle.peer.specs.Outcome.{State, Outcome}
use Rattle.peer.specs.States.{disconnect_later}
use Rattle.peer.specs.Gate.{fits, gate_of}
use Rattle.peer.specs.declared.settings.Settings.{Settings}
use Rattle.peer.specs.declared.Peer.{Peer}
use Rattle.peer.specs.declared.gate.Lent.TheVariants as lent
use Rattle.peer.proofs.Gates.{sound_open}
use Rattle.peer.proofs.Ranges.{count_high}
use Rattle.laws.proofs.SameLaws.{Agree, agree_less, agree_set, named_first, ranked_set, Like, named, Within}
use Rattle.laws.proofs.SamePairs.{ranked_by, rebuilt_like}
use Rattle.laws.proofs.Pieced.{pieced_on_whole}
use Rattle.laws.proofs.Fates.{unfinished_found, first_piece, later_piece}
use Rattle.arrival.specs.Storing.{free_slot, awaiting}
use Rattle.arrival.specs.Arrivals.{answer_of, arrival_gate}
use Rattle.arrival.specs.declared.Fate.{Fate as Room}
use Rattle.arrival.proofs.Admitted.{admitted}
use Rattle.dispatch.specs.Calls.{dispatched_on}
use Rattle.arrive_reliable.specs.Holding.{held_with}
use Rattle.arrive_fragment.specs.Pieces.{channel_of, is_unfinished, unfinished, unfinished_on, any_block, first_fate, later_fate, fate_by, fate_on, reply_of}
use Rattle.arrive_fragment.specs.Calls.{send_fragment, arrival_of, opened_on, pieced_on, piece_on, fragment_after, fragment_sound, arrives_fragment}
use Rattle.arrive_fragment.specs.declared.Piece.{Piece}
use Rattle.arrive_fragment.specs.declared.Fate.{Fate}
use Rattle.arrive_fragment.specs.declared.Fate.TheVariants as fate
use Rattle.promises.proofs.AlikeOut.{ap₃}
use Rattle.promises.proofs.AlikeIn.{Landed, items_same, landed_names, shape, in_list, dispatched_like, dispatched_within}
use Rattle.promises.proofs.AlikeIn.{names_same, room_same, pools, pooled, passed_same, with_shape, with_names, behind_landed}

-- ---- what slots of a list are, by what they hold
module _ (a b : List Incoming) where
  unfinished_agree : (xs : List ℕ) (start : ℕ) → Agree no_incoming xs a b → unfinished a xs start ≡ unfinished b xs start
  unfolding unfinished
  unfinished_agree [] start h = refl
  unfinished_agree (s ∷ ss) start h =
      ap₂ (λ (i : Incoming) (f : Option ℕ). pick (is_unfinished start i) (Some s) f) (h s (named_first s ss)) (unfinished_agree ss start (λ x k. h x (omega (arith, k))))

  blocks_agree : (xs : List ℕ) → Agree no_incoming xs a b → blocks a xs ≡ blocks b xs
  unfolding blocks
  blocks_agree [] h = refl
  blocks_agree (s ∷ ss) h =
      ap₂ (λ (i : Incoming) (n : ℕ). pick (is_block i) 1 0 + n) (h s (named_first s ss)) (blocks_agree ss (λ x k. h x (omega (arith, k))))

  -- a slot more that is alike
  agree_more : (xs : List ℕ) (n : ℕ) → Agree no_incoming xs a b → get_or a n no_incoming ≡ get_or b n no_incoming → Agree no_incoming (n ∷ xs) a b
  agree_more xs n h e s j = go (eqb n s) refl j
    where
      go : (c : Bool) → eqb n s ≡ c → 0 < pick c 1 0 + times xs s → get_or a s no_incoming ≡ get_or b s no_incoming
      go true t j = subst (λ (y : ℕ). get_or a y no_incoming ≡ get_or b y no_incoming) (eqb-true n s t) e
      go false t j = h s (omega (arith, j))

-- records that are alike, the incoming pool too
record Pair (p q : Peer) : Type 0 where
  like : Like p q
  within : Within p q

-- a record with the slot of a block more stays whole
opened_whole : (n : ℕ) (a : Piece) (p : Peer) → Whole p → Whole (opened_on n a p)
opened_whole n a p l =
    record {
      channels = length-set p.channels a.channel _ ∙ l.channels;
      outgoing = l.outgoing;
      incoming = length-set p.incoming n _ ∙ l.incoming;
    }

-- ---- a piece stored in slot n, which is alike in both
module _ (p q : Peer) (k : Like p q) (w : Within p q) (whole : Whole p) (whole' : Whole q) (few : p.standing.channels ≤ sizes.channels)
    (a : Piece) (on : a.channel < p.standing.channels) (n : ℕ) (same : get_or p.incoming n no_incoming ≡ get_or q.incoming n no_incoming) where
  pieced_pools : Agree no_incoming (n ∷ named p) (pieced_on n a p).incoming (pieced_on n a q).incoming
  pieced_pools =
      agree_set no_incoming (n ∷ named p) p.incoming q.incoming (agree_more p.incoming q.incoming (named p) n w same) n _ _
      (whole.incoming ∙ sym whole'.incoming) (ap one_less same)

  pieced : Pair (pieced_on n a p) (pieced_on n a q)
  pieced =
      record {
        like =
            rebuilt_like p q k k.standing k.totals k.times k.loss k.throttling k.trips k.flow k.lists k.unsequenced k.waiting
            (ranked_by p q k) k.outs (ap (λ (m : Marks). with_piece m a.fragment.number) k.marks);
        within =
            agree_less no_incoming (n ∷ named p) (pieced_on n a p).incoming (pieced_on n a q).incoming pieced_pools (named (pieced_on n a p))
            (λ s h. omega (arith, h));
      }

  piece_pair : Pair (piece_on n a p) (piece_on n a q)
  piece_pair =
      subst (λ (i : Incoming). Pair (piece_on n a p) (pick (eqb i.remaining 0) (dispatched_on a.channel (pieced_on n a q)) (pieced_on n a q)))
      (pieced_pools n (named_first n (named p))) (go (eqb (get_or (pieced_on n a p).incoming n no_incoming).remaining 0))
    where
      go : (b : Bool) → Pair (pick b (dispatched_on a.channel (pieced_on n a p)) (pieced_on n a p)) (pick b (dispatched_on a.channel (pieced_on n a q)) (pieced_on n a q))
      go true =
          let then = pieced_on_whole n a p whole in
          record {
            like = dispatched_like (pieced_on n a p) (pieced_on n a q) pieced.like pieced.within then few a.channel on;
            within = dispatched_within (pieced_on n a p) (pieced_on n a q) pieced.like pieced.within then few a.channel on;
          }
      go false = pieced

module _ (p q : Peer) (k : Like p q) (w : Within p q) (whole : Whole p) (whole' : Whole q) (few : p.standing.channels ≤ sizes.channels)
    (a : Piece) (on : a.channel < p.standing.channels) where
  -- ---- the block's slot, free before, joins the channel's list
  module _ (n : ℕ) (free : free_slot p.lists p.channels p.standing.channels ≡ Some n) where
    abbrev block : Incoming
    block = block_of a.byte a.channel a.start a.fragment

    abbrev now : Channel
    now = held_with p.incoming (channel_of a p) a.start.0 n

    opened : Pair (opened_on n a p) (opened_on n a q)
    opened =
        record {
          like =
              rebuilt_like p q k k.standing k.totals k.times k.loss k.throttling k.trips k.flow k.lists k.unsequenced
              (ap (λ (t : Waiting). awaiting t a.fragment.total) k.waiting)
              (ranked_set p.channels q.channels p.standing.channels a.channel _ _ (ranked_by p q k)
              (with_shape p q k w whole whole' few a.channel a.start.0 on n))
              k.outs k.marks;
          within =
              pooled p q k w whole whole' block n free (named (opened_on n a p))
              (λ t.
              landed_names p whole few a.channel on p.lists now t (one n t)
              (omega (arith, with_names p q k w whole whole' few a.channel a.start.0 on n t)));
        }

    opened_same : get_or (opened_on n a p).incoming n no_incoming ≡ get_or (opened_on n a q).incoming n no_incoming
    opened_same = pools p q k w whole whole' block n free n (named_first n (named p))

  -- ---- what becomes of the piece
  module _ (s : Settings) where
    -- a slot that its channel holds is alike
    held_same : Agree no_incoming (in_items (channel_of a p).held) p.incoming q.incoming
    held_same = in_list p q k w whole few a.channel on

    unfinished_same : unfinished_on a p ≡ unfinished_on a q
    unfinished_same =
        unfinished_agree p.incoming q.incoming (in_items (channel_of a p).held) a.start.0 held_same
        ∙ ap (λ (xs : List ℕ). unfinished q.incoming xs a.start.0)
        (items_same (channel_of a p) (channel_of a q) (shape p q k w whole few a.channel on))

    any_same : any_block p ≡ any_block q
    any_same =
        ap (λ (n : ℕ). not (eqb n 0))
        (blocks_agree p.incoming q.incoming (named p) w ∙ ap (blocks q.incoming) (names_same p q k w whole whole'))

    by_same : (f : Option ℕ) → unfinished_on a p ≡ f → fate_by f s a p ≡ fate_by f s a q
    by_same None e =
        ap₃ (λ (passed another : Bool) (r : Room). first_fate passed (fields_fit s.packet a.fragment) another r)
        (passed_same p q k w whole whole' few a.channel a.start.0 on) any_same (room_same p q k w whole whole' s)
    by_same (Some n) e =
        ap₂ (λ (i : Incoming) (m : Marks). later_fate (both (fields_fit s.packet a.fragment) (like_first a.fragment i)) (piece_marked m a.fragment.number) n)
        (held_same n (unfinished_found p.incoming (in_items (channel_of a p).held) a.start.0 n e).named) k.marks

    fate_same : fate_on s a p ≡ fate_on s a q
    fate_same =
        ap₂ (λ (n : Standing) (f : Fate). pick (eqb n.state disconnect_later) fate.Passed f) k.standing
        (by_same (unfinished_on a p) refl ∙ ap (λ (f : Option ℕ). fate_by f s a q) unfinished_same)

    module _ (store second datagram : List ℕ) where
      abbrev x : State
      x = record { peer = p; store = store; second = second }

      abbrev y : State
      y = record { peer = q; store = store; second = second }

      abbrev fated : Fate → State → Outcome State
      fated f z = record { answer = answer_of (reply_of f); after = fragment_after f a datagram z }

      fate_landed : (f : Fate) → fate_on s a p ≡ f → Landed (fated f x) (fated f y)
      fate_landed fate.Passed e = record { answer = refl; store = refl; second = refl; like = k; within = w }
      fate_landed fate.Unfit e = record { answer = refl; store = refl; second = refl; like = k; within = w }
      fate_landed fate.NoRoom e = record { answer = refl; store = refl; second = refl; like = k; within = w }
      fate_landed (fate.First n) e =
          let free = (first_piece s a p n e).free in
          let o = opened n free in
          let t = piece_pair (opened_on n a p) (opened_on n a q) o.like o.within (opened_whole n a p whole) (opened_whole n a q whole') few a on n
          (opened_same n free) in
          record { answer = refl; store = refl; second = refl; like = t.like; within = t.within }
      fate_landed (fate.Later n) e =
          let t = piece_pair p q k w whole whole' few a on n (held_same n (later_piece s a p n e).found.named) in
          record { answer = refl; store = refl; second = refl; like = t.like; within = t.within }

      landed : Landed (fated (fate_on s a p) x) (fated (fate_on s a q) y)
      landed = subst (λ (f : Fate). Landed (fated (fate_on s a p) x) (fated f y)) fate_same (fate_landed (fate_on s a p) refl)

module _ (p q : Peer) (k : Like p q) (w : Within p q) (alike : sound p ≡ sound q) (whole : Whole p) (whole' : Whole q) (store second : List ℕ) where
  pub fragment_landed : (s : Settings) (a : Piece) (datagram : List ℕ)
      → Landed (arrives_fragment s a datagram (record { peer = p; store = store; second = second }))
      (arrives_fragment s a datagram (record { peer = q; store = store; second = second }))
  fragment_landed s a datagram =
      let fit = fits s (lent.Both (length store) (length second)) in
      let step = behind_landed p q k w alike whole whole' store second in
      step (gate_of fit (sound p)) (gate_of fit (sound q)) (fragment_sound s a datagram (record { peer = p; store = store; second = second }))
      (fragment_sound s a datagram (record { peer = q; store = store; second = second })) (ap (gate_of fit) alike)
      (λ e.
      step (arrival_gate send_fragment (arrival_of a) s p.standing (length datagram)) (arrival_gate send_fragment (arrival_of a) s q.standing (length datagram)) _ _
      (ap (λ (n : Standing). arrival_gate send_fragment (arrival_of a) s n (length datagram)) k.standing)
      (λ own.
      landed p q k w whole whole' (count_high p (sound_open fit (sound p) e)) a
      (admitted send_fragment (arrival_of a) s p.standing (length datagram) own).on s store second datagram))
