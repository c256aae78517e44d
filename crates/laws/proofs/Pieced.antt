-- C-11: a piece marked in its block's slot, and one less remaining there: the record stays sound and whole.
-- The argument: the slot keeps its channel, its length and that it is a block, so every list and sum is as before; slot and marks belong together as before by
-- the blocks' own law; no other slot that is named is a block, as there is only one, and a packet fits whatever the marks.
use Prim.Native.Nat.{ℕ, ◌+◌, ◌≤◌, ◌<◌}
use mathlib.Core.Path.{◌≡◌, refl, ap, sym, ◌∙◌}
use mathlib.Core.Bool.{Bool, true, false}
use mathlib.Core.List.{List, [], ◌∷◌}
use native.Mathlib.Omega.{arith}
use lib.Dec.{leb, ltb, eqb}
use lib.ListN.{length, get_or, set, length-set}
use lib.Seq.{get_or-set_same, get_or-set_other}
use borrow.Author.Tests.{eqb-true, eqb-false, ne_eqb}
use Rattle.numbers.specs.Pick.{pick, both}
use Rattle.numbers.proofs.BoolLaws.{both_left, both_right, both_true}
use Rattle.record.specs.Lists.{incoming, in_items}
use Rattle.record.proofs.Keeps.{times, exist_below}
use Rattle.record.specs.Fresh.{no_incoming}
use Rattle.record.specs.Sizes.{cell}
use Rattle.record.specs.Marks.{piece_marked, with_piece}
use Rattle.record.specs.Blocks.{is_block, block_fit}
use Rattle.record.specs.Damage.{all, below, kind_fit, in_fit, own, lengths, blocks, one_block, used_in}
use Rattle.record.proofs.KindLaws.{packet_fit}
use Rattle.record.specs.declared.groups.Channel.{Channel}
use Rattle.record.specs.declared.groups.Incoming.{Incoming}
use Rattle.record.specs.declared.groups.Marks.{Marks}
use Rattle.blocks.specs.Blocks.{one_less}
use Rattle.blocks.proofs.BlockLaws.{piece_fit}
use Rattle.peer.specs.Damage.{sound}
use Rattle.peer.specs.Sounds.{Whole}
use Rattle.peer.specs.declared.Peer.{Peer}
use Rattle.peer.proofs.Clauses.{sound_clauses, clauses_sound, all_at, at_all}
use Rattle.peer.proofs.InClauses.{InClauses, incoming_clauses, clauses_in}
use Rattle.arrive_fragment.specs.Calls.{pieced_on}
use Rattle.arrive_fragment.specs.declared.Piece.{Piece}

abbrev pub slot_in : List Incoming → ℕ → Incoming
slot_in slots k = get_or slots k no_incoming

-- ---- how many blocks stand in a list
some_block : (slots : List Incoming) (xs : List ℕ) (n : ℕ) → is_block (slot_in slots n) ≡ true → 0 < times xs n → 1 ≤ blocks slots xs
unfolding blocks
some_block slots [] n b h = absurd (omega (arith, h))
some_block slots (x ∷ xs) n b h = go (some_block slots xs n b) (eqb x n) refl h
  where
    go : (0 < times xs n → 1 ≤ blocks slots xs) → (c : Bool) → eqb x n ≡ c → 0 < pick c 1 0 + times xs n
        → 1 ≤ pick (is_block (slot_in slots x)) 1 0 + blocks slots xs
    go rest true t h =
        let is : is_block (slot_in slots x) ≡ true = ap (λ (k : ℕ). is_block (slot_in slots k)) (eqb-true x n t) ∙ b in
        rw is (omega arith)
    go rest false t h = omega (arith, rest (omega (arith, h)))

two_blocks : (slots : List Incoming) (xs : List ℕ) (n k : ℕ) → is_block (slot_in slots n) ≡ true → is_block (slot_in slots k) ≡ true → (n ≡ k → ⊥)
    → 0 < times xs n → 0 < times xs k → 2 ≤ blocks slots xs
unfolding blocks
two_blocks slots [] n k b c d h j = absurd (omega (arith, h))
two_blocks slots (x ∷ xs) n k b c d h j = go (two_blocks slots xs n k b c d) (eqb x n) refl (eqb x k) refl h j
  where
    go : (0 < times xs n → 0 < times xs k → 2 ≤ blocks slots xs) → (t : Bool) → eqb x n ≡ t → (u : Bool) → eqb x k ≡ u
        → 0 < pick t 1 0 + times xs n → 0 < pick u 1 0 + times xs k → 2 ≤ pick (is_block (slot_in slots x)) 1 0 + blocks slots xs
    go rest true t true u h j = absurd (d (sym (eqb-true x n t) ∙ eqb-true x k u))
    go rest true t false u h j =
        let is : is_block (slot_in slots x) ≡ true = ap (λ (m : ℕ). is_block (slot_in slots m)) (eqb-true x n t) ∙ b in
        rw is (omega (arith, some_block slots xs k c (omega (arith, j))))
    go rest false t true u h j =
        let is : is_block (slot_in slots x) ≡ true = ap (λ (m : ℕ). is_block (slot_in slots m)) (eqb-true x k u) ∙ c in
        rw is (omega (arith, some_block slots xs n b (omega (arith, h))))
    go rest false t false u h j = omega (arith, rest (omega (arith, h)) (omega (arith, j)))

-- a sound pool in which a block is named has just that one
one_is : (m : Marks) (n : ℕ) → 1 ≤ n → one_block m n ≡ true → n ≡ 1
one_is m n h e = eqb-true n 1 (rw (ne_eqb n 0 (λ z. omega (arith, z, h))) at e)

pub the_block : (m : Marks) (slots : List Incoming) (xs : List ℕ) (n : ℕ) → is_block (slot_in slots n) ≡ true → 0 < times xs n
    → one_block m (blocks slots xs) ≡ true → blocks slots xs ≡ 1
the_block m slots xs n b h e = one_is m (blocks slots xs) (some_block slots xs n b h) e

pub other_packet : (slots : List Incoming) (xs : List ℕ) (n k : ℕ) → blocks slots xs ≡ 1 → is_block (slot_in slots n) ≡ true → 0 < times xs n
    → (n ≡ k → ⊥) → 0 < times xs k → is_block (slot_in slots k) ≡ false
other_packet slots xs n k e b h d j = go (is_block (slot_in slots k)) refl
  where
    go : (c : Bool) → is_block (slot_in slots k) ≡ c → c ≡ false
    go true t = absurd (omega (arith, e, two_blocks slots xs n k b t d h j))
    go false t = refl

-- ---- pools alike, slot by slot
module _ (a b : List Incoming) where
  pub lengths_alike : ((k : ℕ) → (slot_in a k).length ≡ (slot_in b k).length) → (xs : List ℕ) → lengths a xs ≡ lengths b xs
  unfolding lengths
  lengths_alike e [] = refl
  lengths_alike e (x ∷ xs) = rw (e x, lengths_alike e xs)

  pub blocks_alike : ((k : ℕ) → (slot_in a k).fragments ≡ (slot_in b k).fragments) → (xs : List ℕ) → blocks a xs ≡ blocks b xs
  unfolding blocks
  blocks_alike e [] = refl
  blocks_alike e (x ∷ xs) = rw (e x, blocks_alike e xs)

  all_alike : (f g : ℕ → Bool) → ((k : ℕ) → f k ≡ g k) → (xs : List ℕ) → all f xs ≡ all g xs
  unfolding all
  all_alike f g e [] = refl
  all_alike f g e (x ∷ xs) = rw (e x, all_alike f g e xs)

  pub own_alike : ((k : ℕ) → (slot_in a k).channel ≡ (slot_in b k).channel) → (i : ℕ) (cs : List Channel) → own a i cs ≡ own b i cs
  unfolding own
  own_alike e i [] = refl
  own_alike e i (c ∷ cs) =
      rw (
        all_alike (λ (s : ℕ). eqb (slot_in a s).channel i) (λ (s : ℕ). eqb (slot_in b s).channel i) (λ k. ap (λ (j : ℕ). eqb j i) (e k)) (in_items c.held),
        own_alike e (i + 1) cs,
      )

-- a slot that keeps a part of it
pub part_kept : {A : Type 0} (part : Incoming → A) (slots : List Incoming) (n : ℕ) (new : Incoming) → n < length slots → part new ≡ part (slot_in slots n)
    → (k : ℕ) → part (slot_in (set slots n new) k) ≡ part (slot_in slots k)
part_kept {A} part slots n new here e k = go (eqb n k) refl
  where
    go : (b : Bool) → eqb n k ≡ b → part (slot_in (set slots n new) k) ≡ part (slot_in slots k)
    go true t =
        let is : n ≡ k = eqb-true n k t in
        ap (λ (j : ℕ). part (slot_in (set slots n new) j)) (sym is) ∙ ap part (get_or-set_same slots n new no_incoming here) ∙ e
        ∙ ap (λ (j : ℕ). part (slot_in slots j)) is
    go false t = ap part (get_or-set_other slots n k new no_incoming (λ z. eqb-false n k t (sym z)))

-- ---- the piece
-- slot n of the record is named and a block, and piece k of it is not marked
module _ (n : ℕ) (a : Piece) (q : Peer) (whole : Whole q) (good : sound q ≡ true)
    (named : 0 < times (used_in q.lists (below q.channels q.standing.channels)) n)
    (block : is_block (slot_in q.incoming n) ≡ true) (low : a.fragment.number < (slot_in q.incoming n).fragments)
    (unmarked : piece_marked q.marks a.fragment.number ≡ false) where
  abbrev cs : List Channel
  cs = below q.channels q.standing.channels

  abbrev used : List ℕ
  used = used_in q.lists cs

  abbrev count : ℕ
  count = q.standing.channels

  abbrev clauses : InClauses q.marks q.incoming q.lists cs count q.waiting.total
  clauses = incoming_clauses q good

  abbrev old : Incoming
  old = slot_in q.incoming n

  abbrev pool : List Incoming
  pool = set q.incoming n (one_less old)

  abbrev marks : Marks
  marks = with_piece q.marks a.fragment.number

  pub pieced_in_pool : n < length q.incoming
  pieced_in_pool = omega (arith, exist_below incoming used clauses.exists n named, whole.incoming)

  single : blocks q.incoming used ≡ 1
  single = the_block q.marks q.incoming used n block named clauses.block

  abbrev fitting : Marks → Incoming → Bool
  fitting m i = both (kind_fit m i) (ltb i.channel count)

  -- what fitted fits with the piece's mark
  was_fit : (k : ℕ) → 0 < times used k → fitting q.marks (slot_in q.incoming k) ≡ true
  was_fit k h = all_at (in_fit q.marks q.incoming count) used clauses.fit k h

  old_fit : block_fit q.marks old ≡ true
  old_fit =
      sym (ap (λ (b : Bool). pick b (block_fit q.marks old) (leb old.length cell)) block)
      ∙ both_left (kind_fit q.marks old) (ltb old.channel count) (was_fit n named)

  new_kind : kind_fit marks (one_less old) ≡ true
  new_kind =
      ap (λ (b : Bool). pick b (block_fit marks (one_less old)) (leb old.length cell)) block
      ∙ piece_fit q.marks old old_fit a.fragment.number low unmarked

  fit_now : (k : ℕ) → 0 < times used k → in_fit marks pool count k ≡ true
  fit_now k h = go (eqb n k) refl
    where
      go : (b : Bool) → eqb n k ≡ b → in_fit marks pool count k ≡ true
      go true t =
          ap (fitting marks) (ap (slot_in pool) (sym (eqb-true n k t)) ∙ get_or-set_same q.incoming n (one_less old) no_incoming pieced_in_pool)
          ∙ both_true (kind_fit marks (one_less old)) (ltb old.channel count) new_kind
          (both_right (kind_fit q.marks old) (ltb old.channel count) (was_fit n named))
      go false t =
          let i = slot_in q.incoming k in
          let f = was_fit k h in
          ap (fitting marks) (get_or-set_other q.incoming n k (one_less old) no_incoming (λ z. eqb-false n k t (sym z)))
          ∙ both_true (kind_fit marks i) (ltb i.channel count)
          (packet_fit q.marks marks i (other_packet q.incoming used n k single block named (eqb-false n k t) h)
          (both_left (kind_fit q.marks i) (ltb i.channel count) f))
          (both_right (kind_fit q.marks i) (ltb i.channel count) f)

  pieced_clauses : InClauses marks pool q.lists cs count q.waiting.total
  pieced_clauses =
      let alike : blocks pool used ≡ 1 =
      blocks_alike pool q.incoming (part_kept (λ (i : Incoming). i.fragments) q.incoming n (one_less old) pieced_in_pool refl) used ∙ single in
      record {
        exists = clauses.exists;
        single = clauses.single;
        fit = at_all (in_fit marks pool count) used fit_now;
        own =
            own_alike pool q.incoming (part_kept (λ (i : Incoming). i.channel) q.incoming n (one_less old) pieced_in_pool refl) 0 cs
            ∙ clauses.own;
        total =
            clauses.total
            ∙ sym (lengths_alike pool q.incoming (part_kept (λ (i : Incoming). i.length) q.incoming n (one_less old) pieced_in_pool refl) used);
        block = ap (one_block marks) alike;
      }

  pub pieced_on-sound : sound (pieced_on n a q) ≡ true
  pieced_on-sound =
      let w = sound_clauses q good in
      clauses_sound (pieced_on n a q)
      (record {
        range = w.range;
        lists = w.lists;
        held = w.held;
        exists = w.exists;
        single = w.single;
        fit = w.fit;
        sent = w.sent;
        arrived = clauses_in marks pool q.lists cs count q.waiting.total pieced_clauses;
      })

pub pieced_on_whole : (n : ℕ) (a : Piece) (q : Peer) → Whole q → Whole (pieced_on n a q)
pieced_on_whole n a q whole =
    record { channels = whole.channels; outgoing = whole.outgoing; incoming = length-set q.incoming n _ ∙ whole.incoming }
