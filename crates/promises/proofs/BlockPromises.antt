-- What is promised of blocks and can be read off the rule (promises/specs/Blocks): whole exactly when all pieces are marked (`block_whole`), a marked piece changes
-- nothing (`marked_changes_nothing`), and only a stored piece changes the second store (`second_kept`).
-- The argument: the fate's cases in their order; in a sound record a block's numbers and marks belong together, and then blocks' `complete` and `marked_complete` hold.
use Rattle.std.specs.Prelude.{None, Option, Some}
use Prim.Native.Nat.{ℕ}
use mathlib.Core.Path.{◌≡◌, refl, ap, sym, ◌∙◌}
use mathlib.Core.Bool.{Bool, true, false, false≢true}
use mathlib.Core.List.{List, [], ◌∷◌}
use mathlib.Core.Logic.{◌⊎◌, inl, inr}
use lib.Dec.{eqb, ltb, leb}
use lib.ListN.{get_or}
use Rattle.numbers.specs.Pick.{pick, both}
use Rattle.numbers.specs.declared.counters.Group.{Group}
use borrow.Author.Tests.{eqb-true}
use Rattle.numbers.proofs.BoolLaws.{both_left, both_right}
use Rattle.cells.specs.Runs.{has}
use Rattle.record.specs.Sizes.{cell}
use Rattle.record.specs.Fresh.{no_incoming}
use Rattle.record.specs.Marks.{piece_marked}
use Rattle.record.specs.Blocks.{block_fit}
use Rattle.record.specs.Damage.{below, used_in, all, kind_fit, in_fit}
use Rattle.blocks.specs.Blocks.{fields_fit, like_first}
use Rattle.blocks.proofs.BlockLaws.{complete, marked_complete}
use Rattle.peer.specs.States.{disconnect_later}
use Rattle.peer.specs.Outcome.{State, Outcome}
use Rattle.peer.specs.declared.settings.Settings.{Settings}
use Rattle.peer.specs.declared.Peer.{Peer}
use Rattle.peer.proofs.InClauses.{incoming_clauses}
use Rattle.arrival.specs.Arrivals.{room_of}
use Rattle.arrival.specs.declared.Arrival.{Arrival}
use Rattle.arrival.specs.declared.Fate.{Fate as Room}
use Rattle.arrival.specs.declared.Fate.TheVariants as room
use Rattle.arrive_unsequenced.specs.Calls.{arrives_unsequenced}
use Rattle.arrive_reliable.specs.Holding.{is_passed}
use Rattle.arrive_reliable.specs.Calls.{arrives_reliable}
use Rattle.laws.proofs.Unsequenced.{unsequenced_has}
use Rattle.laws.proofs.Reliable.{reliable_has}
use Rattle.arrive_fragment.specs.Pieces.{channel_of, unfinished_on, any_block, opens, first_fate, later_fate, fate_by, fate_on}
use Rattle.arrive_fragment.specs.Calls.{fragment_after, arrives_fragment}
use Rattle.arrive_fragment.specs.declared.Piece.{Piece}
use Rattle.arrive_fragment.specs.declared.Fate.{Fate}
use Rattle.arrive_fragment.specs.declared.Fate.TheVariants as fate
use Rattle.link_in.specs.declared.calls.Call.TheVariants as inw
use Rattle.link.specs.declared.calls.Call.TheVariants as call
use Rattle.promises.specs.Blocks.{BlockWhole, MarkedChangesNothing, piece_laid, LaysPiece, SecondKept}
use Rattle.promises.proofs.Pieces.{outcome_by, fragment_by}

-- ---- a test of every slot of a list, at one that the list has
all-has : (f : ℕ → Bool) (xs : List ℕ) (n : ℕ) → all f xs ≡ true → has xs n ≡ true → f n ≡ true
unfolding all
all-has f [] n e h = absurd (false≢true h)
all-has f (x ∷ xs) n e h = go (all-has f xs n (both_right (f x) (all f xs) e)) (eqb x n) refl h
  where
    go : (has xs n ≡ true → f n ≡ true) → (b : Bool) → eqb x n ≡ b → pick b true (has xs n) ≡ true → f n ≡ true
    go rest true t m = rw (eqb-true x n t) at (both_left (f x) (all f xs) e)
    go rest false t m = rest m

pub block_whole : BlockWhole
block_whole p n good there block =
    let i = get_or p.incoming n no_incoming in
    let count = p.standing.channels in
    let used = used_in p.lists (below p.channels count) in
    let fit = both_left (kind_fit p.marks i) (ltb i.channel count) (all-has (in_fit p.marks p.incoming count) used n (incoming_clauses p good).fit there) in
    let own : block_fit p.marks i ≡ true = sym (ap (λ (b : Bool). pick b (block_fit p.marks i) (leb i.length cell)) block) ∙ fit in
    record { marked = complete p.marks i own; whole = marked_complete p.marks i own }

-- ---- the fate's cases
module _ (s : Settings) (a : Piece) (p : Peer) where
  -- a property of the fate, by whose piece it is
  by_state : (P : Fate → Type 0) → P fate.Passed → P (fate_by (unfinished_on a p) s a p) → P (fate_on s a p)
  by_state P passed rest = go (eqb p.standing.state disconnect_later)
    where
      go : (b : Bool) → P (pick b fate.Passed (fate_by (unfinished_on a p) s a p))
      go true = passed
      go false = rest

  -- a later piece that is marked
  marked_fate : (n : ℕ) → unfinished_on a p ≡ Some n → piece_marked p.marks a.fragment.number ≡ true
      → (P : Fate → Type 0) → P fate.Passed → P fate.Unfit → P (fate_on s a p)
  marked_fate n is marked P passed unfit =
      by_state P passed (rw is (rw marked (go (both (fields_fit s.packet a.fragment) (like_first a.fragment (get_or p.incoming n no_incoming))))))
    where
      go : (b : Bool) → P (pick b fate.Passed fate.Unfit)
      go true = passed
      go false = unfit

  -- one that begins a block, or is of an unfinished one: 8 is the first's, Option ℕ too, Later the other's
  pub data Goes : Fate → Type 0 where
    passed : Goes fate.Passed
    unfit : Goes fate.Unfit
    full : unfinished_on a p ≡ None → Goes fate.NoRoom
    first_piece : (n : ℕ) → unfinished_on a p ≡ None → Goes (fate.First n)
    later_piece : (n : ℕ) → unfinished_on a p ≡ Some n → Goes (fate.Later n)

  pub goes : Goes (fate_on s a p)
  goes = by_state Goes passed (by (unfinished_on a p) refl)
    where
      room_goes : (e : unfinished_on a p ≡ None) (another : Bool) (r : Room) → Goes (opens another r)
      room_goes e another room.Passed = passed
      room_goes e another room.NoRoom = full e
      room_goes e true (room.Stored n) = full e
      room_goes e false (room.Stored n) = first_piece n e

      first_goes : (e : unfinished_on a p ≡ None) (over fit : Bool) → Goes (first_fate over fit (any_block p) (room_of s p))
      first_goes e true fit = passed
      first_goes e false true = room_goes e (any_block p) (room_of s p)
      first_goes e false false = unfit

      later_goes : (n : ℕ) (e : unfinished_on a p ≡ Some n) (fit marked : Bool) → Goes (later_fate fit marked n)
      later_goes n e true true = passed
      later_goes n e true false = later_piece n e
      later_goes n e false marked = unfit

      by : (b : Option ℕ) → unfinished_on a p ≡ b → Goes (fate_by b s a p)
      by None e = first_goes e (is_passed p.incoming (channel_of a p) a.start.0) (fields_fit s.packet a.fragment)
      by (Some n) e =
          later_goes n e (both (fields_fit s.packet a.fragment) (like_first a.fragment (get_or p.incoming n no_incoming)))
          (piece_marked p.marks a.fragment.number)

pub marked_changes_nothing : MarkedChangesNothing
marked_changes_nothing s a datagram x n is marked =
    fragment_by s a datagram x (λ (o : Outcome State). o.after ≡ x) (λ why. refl)
    (marked_fate s a x.peer n is marked (λ (f : Fate). fragment_after f a datagram x ≡ x) refl refl)

-- ---- the second store
second_by : (s : Settings) (a : Piece) (datagram : List ℕ) (x : State) → let o = arrives_fragment s a datagram x in
    (o.after.second ≡ x.second) ⊎ LaysPiece (call.Inward (inw.FragmentArrival a)) datagram x o
second_by s a datagram x =
    fragment_by s a datagram x (λ (o : Outcome State). (o.after.second ≡ x.second) ⊎ LaysPiece (call.Inward (inw.FragmentArrival a)) datagram x o)
    (λ why. inl refl) (by (fate_on s a x.peer) (goes s a x.peer))
  where
    by : (f : Fate) → Goes s a x.peer f → let o = outcome_by s a datagram x f in
        (o.after.second ≡ x.second) ⊎ LaysPiece (call.Inward (inw.FragmentArrival a)) datagram x o
    by f passed = inl refl
    by f unfit = inl refl
    by f (full e) = inl refl
    by f (first_piece n e) =
        inr (record { piece = a; is = refl; stored = refl; second = sym (ap (λ (b : Option ℕ). piece_laid b a datagram x.second) e) })
    by f (later_piece n e) =
        inr (record { piece = a; is = refl; stored = refl; second = sym (ap (λ (b : Option ℕ). piece_laid b a datagram x.second) e) })

-- an arrival of a whole packet leaves it
unsequenced_second : (s : Settings) (a : Arrival) (g : Group) (datagram : List ℕ) (x : State) → (arrives_unsequenced s a g datagram x).after.second ≡ x.second
unsequenced_second s a g datagram x =
    unsequenced_has s a g datagram x (λ (o : Outcome State). o.after.second ≡ x.second) (λ why. refl) (λ good e. refl) (λ good e. refl) (λ n good long may e. refl)

reliable_second : (s : Settings) (a : Arrival) (datagram : List ℕ) (x : State) → (arrives_reliable s a datagram x).after.second ≡ x.second
reliable_second s a datagram x =
    reliable_has s a datagram x (λ (o : Outcome State). o.after.second ≡ x.second) (λ why. refl) (λ good e. refl) (λ n good long may e. refl)

pub second_kept : SecondKept
second_kept s call.Reset datagram x = inl refl
second_kept s (call.Begin mtu channels) datagram x = inl refl
second_kept s (call.SetState state) datagram x = inl refl
second_kept s (call.Outward c) datagram x = inl refl
second_kept s (call.Inward (inw.UnsequencedArrival a g)) datagram x = inl (unsequenced_second s a g datagram x)
second_kept s (call.Inward (inw.ReliableArrival a)) datagram x = inl (reliable_second s a datagram x)
second_kept s (call.Inward (inw.FragmentArrival a)) datagram x = second_by s a datagram x
second_kept s (call.Inward (inw.Dispatch channel)) datagram x = inl refl
second_kept s (call.Inward inw.Receive) datagram x = inl refl
