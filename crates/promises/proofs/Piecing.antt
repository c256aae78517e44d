-- What a piece that is stored does to what stands in the slots, to the packets that are there and to those in dispatched: it adds its write to the block being put
-- together; the last of them puts the block in. The argument: a first piece names one slot more, a later one changes the slot of the one block there, which was not
-- complete; every other slot is a packet's, so that the second store is no part of it; then, where none remains, a dispatch.
use Prim.Native.Nat.{ℕ, ◌+◌, ◌*◌, ◌<◌}
use mathlib.Core.Path.{◌≡◌, refl, ap, ap₂, sym, subst, ◌∙◌}
use mathlib.Core.Bool.{Bool, true, false}
use mathlib.Core.List.{List, [], ◌∷◌, ◌++◌, map, append-nil}
use native.Mathlib.Omega.{arith}
use lib.Dec.{eqb}
use lib.ListN.{take, drop}
use borrow.Author.Tests.{eqb-true, eqb-false}
use Rattle.numbers.specs.Pick.{pick}
use Rattle.record.specs.Lists.{in_items}
use Rattle.record.proofs.Keeps.{times, times_append}
use Rattle.record.specs.Sizes.{cell}
use Rattle.record.specs.Blocks.{is_block}
use Rattle.record.specs.Damage.{all, below, held}
use Rattle.record.specs.declared.groups.Incoming.{Incoming}
use Rattle.record.specs.declared.groups.Standing.{Standing}
use Rattle.peer.specs.Damage.{sound}
use Rattle.peer.specs.Outcome.{State}
use Rattle.peer.specs.Sounds.{Whole}
use Rattle.peer.specs.declared.Peer.{Peer}
use Rattle.dispatch.specs.Calls.{dispatched_on}
use Rattle.dispatch.proofs.Calling.{chosen, ready as ready_in}
use Rattle.dispatch.proofs.Moving.{dispatch_order}
use Rattle.arrive_fragment.specs.Calls.{finished_on}
use Rattle.arrive_fragment.specs.declared.Piece.{Piece}
use Rattle.laws.proofs.Fragments.{finished_has}
use Rattle.promises.specs.Counts.{count}
use Rattle.promises.specs.Reports.{dispatched_in}
use Rattle.promises.specs.Packets.{packet_at, ready, is_complete, newly}
use Rattle.link.specs.Runs.{Packet}
use Rattle.promises.proofs.Presence.{named, count_none, first_named, map_same, passing, passing_adds, passing_one, passing_same, Passes, grown, of_slot, holding, joins_passes}
use Rattle.promises.proofs.Passing.{dispatched_same}
use Rattle.promises.proofs.Building.{slot_of, OfBlock, Stock, differ, dispatched_stock}
use Rattle.promises.proofs.Sorts.{Joined, slots_joined, moved_own}

-- ---- the slot of a block changes, or is new
pub record Lays (x z : State) (n : ℕ) : Type 0 where
  pub standing : z.peer.standing ≡ x.peer.standing
  pub dispatched : dispatched_in z ≡ dispatched_in x
  pub store : z.store ≡ x.store
  pub others : (s : ℕ) → (s ≡ n → ⊥) → slot_of z s ≡ slot_of x s
  pub packets : (s : ℕ) → 0 < times (named x.peer) s → (s ≡ n → ⊥) → is_block (slot_of x s) ≡ false
  pub away : (s : ℕ) → 0 < times (dispatched_in x) s → s ≡ n → ⊥
  pub from : (s : ℕ) → 0 < times (named z.peer) s → (s ≡ n → ⊥) → 0 < times (named x.peer) s

module _ (x z : State) (n : ℕ) (standing : z.peer.standing ≡ x.peer.standing) (store : z.store ≡ x.store)
    (others : (s : ℕ) → (s ≡ n → ⊥) → slot_of z s ≡ slot_of x s)
    (packets : (s : ℕ) → 0 < times (named x.peer) s → (s ≡ n → ⊥) → is_block (slot_of x s) ≡ false) where
  -- another slot's packet has no part in the second store
  pub same_packet : (s : ℕ) → 0 < times (named x.peer) s → (s ≡ n → ⊥) → packet_at z s ≡ packet_at x s
  same_packet s h other =
      let i = slot_of x s in
      let bytes = take i.length (drop (s * cell) x.store) in
      ap (holding z.store z.second s) (others s other) ∙ ap (λ (cells : List ℕ). holding cells z.second s i) store
      ∙ ap (λ (b : Bool). of_slot i (pick b (take i.length z.second) bytes)) (packets s h other)
      ∙ sym (ap (λ (b : Bool). of_slot i (pick b (take i.length x.second) bytes)) (packets s h other))

  same_done : (s : ℕ) → (s ≡ n → ⊥) → is_complete z s ≡ is_complete x s
  same_done s other = ap (λ (i : Incoming). eqb i.remaining 0) (others s other)

  -- what does not name the slot counts the same
  pub none_changed : (f : Packet → Bool) (xs : List ℕ) → ((s : ℕ) → 0 < times xs s → 0 < times (named x.peer) s) → times xs n ≡ 0
      → passing f z xs ≡ passing f x xs
  none_changed f xs inside none =
      passing_same f x z xs (λ s h. same_packet s (inside s h) (other s h)) (λ s h. same_done s (other s h))
    where
      other : (s : ℕ) → 0 < times xs s → s ≡ n → ⊥
      other s h e = let here : 0 < times xs n = rw e at h in omega (arith, here, none)

  -- what names it once, where it was not complete, counts it more
  pub one_changed : (f : Packet → Bool) (xs : List ℕ) → ((s : ℕ) → 0 < times xs s → 0 < times (named x.peer) s) → times xs n ≡ 1 → is_complete x n ≡ false
      → passing f z xs ≡ passing f z (n ∷ []) + passing f x xs
  one_changed f [] inside once left = absurd (omega (arith, once))
  one_changed f (t ∷ xs) inside once left = go (eqb t n) refl once (λ h. one_changed f xs (λ s p. inside s (omega (arith, p))) h left)
    where
      rest : (s : ℕ) → 0 < times xs s → 0 < times (named x.peer) s
      rest s h = inside s (omega (arith, h))

      go : (b : Bool) → eqb t n ≡ b → pick b 1 0 + times xs n ≡ 1 → (times xs n ≡ 1 → passing f z xs ≡ passing f z (n ∷ []) + passing f x xs)
          → passing f z (t ∷ xs) ≡ passing f z (n ∷ []) + passing f x (t ∷ xs)
      go true e once more =
          let at : t ≡ n = eqb-true t n e in
          omega (
            arith,
            passing_adds f z (t ∷ []) xs,
            passing_adds f x (t ∷ []) xs,
            ap (λ (s : ℕ). passing f z (s ∷ [])) at,
            ap (λ (s : ℕ). passing f x (s ∷ [])) at,
            passing_one f x n ∙ ap (λ (b : Bool). count f (pick b (packet_at x n ∷ []) [])) left ∙ count_none f,
            none_changed f xs rest (omega (arith, once)),
          )
      go false e once more =
          let other = eqb-false t n e in
          let same =
          passing_one f z t
          ∙ ap₂ (λ (b : Bool) (k : Packet). count f (pick b (k ∷ []) [])) (same_done t other) (same_packet t (inside t (first_named t xs)) other)
          ∙ sym (passing_one f x t) in
          omega (arith, passing_adds f z (t ∷ []) xs, passing_adds f x (t ∷ []) xs, same, more (omega (arith, once)))

none_all : (f : ℕ → Bool) → all f [] ≡ true
unfolding all
none_all f = refl

-- ---- what passes, and what then stands there
module _ (x z : State) (n : ℕ) (k : Lays x z n) where
  abbrev held_there : List ℕ
  held_there = held (below x.peer.channels x.peer.standing.channels)

  ready_same : ready z ≡ ready x
  ready_same =
      ap (map (packet_at z)) k.dispatched
      ∙ map_same (packet_at z) (packet_at x) (dispatched_in x)
      (λ s h.
      same_packet x z n k.standing k.store k.others k.packets s (omega (arith, h, times_append (dispatched_in x) held_there s)) (k.away s h))

  pub laid_passes : (put : List Packet) → ((f : Packet → Bool) → passing f z (named z.peer) ≡ count f put + passing f x (named x.peer)) → Passes x z put []
  laid_passes put counted =
      record { once = λ f. omega (arith, count_none f, counted f); order = grown x z [] (ready_same ∙ sym (append-nil (ready x))) }

  pub laid_stock : {B C : OfBlock} → Stock B x → is_block (slot_of z n) ≡ true → C z.peer.marks z.second (slot_of z n) → Stock C z
  laid_stock {B} {C} c block known =
      record { packet = λ s h. packet s h (eqb s n) refl; block = λ s h. blocked s h (eqb s n) refl; out = out }
    where
      packet : (s : ℕ) → 0 < times (named z.peer) s → (b : Bool) → eqb s n ≡ b → is_block (slot_of z s) ≡ false → (slot_of z s).remaining ≡ 0
      packet s h true e f = differ block (ap (λ (t : ℕ). is_block (slot_of z t)) (sym (eqb-true s n e)) ∙ f)
      packet s h false e f =
          let other = eqb-false s n e in
          let same = k.others s other in
          ap (λ (i : Incoming). i.remaining) same ∙ c.packet s (k.from s h other) (sym (ap is_block same) ∙ f)

      blocked : (s : ℕ) → 0 < times (named z.peer) s → (b : Bool) → eqb s n ≡ b → is_block (slot_of z s) ≡ true → C z.peer.marks z.second (slot_of z s)
      blocked s h true e t = subst (λ (j : ℕ). C z.peer.marks z.second (slot_of z j)) (sym (eqb-true s n e)) known
      blocked s h false e t =
          let other = eqb-false s n e in
          differ t (ap is_block (k.others s other) ∙ k.packets s (k.from s h other) other)

      out : (s : ℕ) → 0 < times (dispatched_in z) s → (slot_of z s).remaining ≡ 0
      out s h =
          let was : 0 < times (dispatched_in x) s = rw (← k.dispatched) h in
          ap (λ (i : Incoming). i.remaining) (k.others s (k.away s was)) ∙ c.out s was

  -- then, where none remains, the channel is dispatched
  module _ (a : Piece) (whole : Whole z.peer) (good : sound z.peer ≡ true) (on : a.channel < z.peer.standing.channels) where
    abbrev ended : Peer → State
    ended r = record { peer = r; store = z.store; second = z.second }

    abbrev last : State
    last = ended (finished_on n a z.peer)

    then_passes : (w : State) (put : List Packet) → Passes x z put [] → Passes z w [] [] → Passes x w put []
    then_passes w put g h =
        record {
          once = λ f. omega (arith, g.once f, h.once f, count_none f);
          order = grown x w (newly z w) (h.order ∙ ap (λ (ks : List Packet). ks ++ newly z w) ready_same);
        }

    pub ended_passes : (put : List Packet) → Passes x z put [] → Passes x last put []
    ended_passes put g =
        finished_has n a z.peer (λ (r : Peer). Passes x (ended r) put [])
        (λ none.
        then_passes (ended (dispatched_on a.channel z.peer)) put g
        (joins_passes z (dispatched_on a.channel z.peer) _ refl (dispatch_order a.channel z.peer whole good on).joined
        (dispatched_same a.channel z.peer whole good on)))
        (λ some. g)

    pub ended_stock : {C : OfBlock} → Stock C z → Stock C last
    ended_stock {C} c =
        finished_has n a z.peer (λ (r : Peer). Stock C (ended r)) (λ none. dispatched_stock z a.channel whole good on c) (λ some. c)

    abbrev goes : List ℕ
    goes = take (ready_in a.channel z.peer) (in_items (chosen a.channel z.peer).held)

    pub ended_joined : Joined a.channel x last
    ended_joined =
        let here : a.channel < x.peer.standing.channels = rw (← k.standing) on in
        let same : (z.peer.standing.channels ≡ 0) → x.peer.standing.channels ≡ 0 = λ e. ap (λ (t : Standing). t.channels) (sym k.standing) ∙ e in
        finished_has n a z.peer (λ (r : Peer). Joined a.channel x (ended r))
        (λ none.
        slots_joined a.channel x (ended (dispatched_on a.channel z.peer)) _
        ((dispatch_order a.channel z.peer whole good on).joined ∙ ap (λ (ss : List ℕ). ss ++ goes) k.dispatched)
        (moved_own a.channel z.peer whole good on) here same)
        (λ some. slots_joined a.channel x z [] (k.dispatched ∙ sym (append-nil (dispatched_in x))) (none_all (λ (s : ℕ). eqb (slot_of z s).channel a.channel)) here same)
