-- Soundness through receive: a sound record stays sound, with a head or without.
-- The argument: dispatched without its head names no slot more often, and the total, the sum of the lengths held, is lower by the head's;
-- it is below 2^32, so the difference modulo 2^32 is the plain one. Where the head is the block there is no other, so no marks are right, and the packets
-- that stay fit whatever the marks; where it is a packet, marks and blocks are as before.
use Rattle.std.specs.Prelude.{None, Option, Some}
use Rattle.std.proofs.Common.{◌≡◌, ℕ, ◌+◌, ◌^◌, ◌<◌, ◌≤◌, Bool, true, false, eqb, ltb, leb, List, [], ◌∷◌, ◌++◌, length, get_or, sym, refl, ap, ◌∙◌, arith, length-take, ne_eqb, eqb-true, le-leb, leb-true}
use Rattle.numbers.specs.Pick.{pick, both}
use Rattle.numbers.specs.Modulo.{minus}
use Rattle.numbers.proofs.BoolLaws.{both_left, both_right, both_true}
use Rattle.record.specs.Lists.{outgoing, incoming, in_items}
use Rattle.cells.specs.Runs.{first, without}
use Rattle.record.specs.declared.incoming.InList.{InList}
use Rattle.record.proofs.Keeps.{times}
use Rattle.cells.proofs.Lengths.{without_fits}
use Rattle.record.specs.Fresh.{no_incoming}
use Rattle.record.specs.Marks.{no_marks}
use Rattle.record.specs.Blocks.{is_block}
use Rattle.record.specs.Damage.{lists_fit, below, held, kind_fit, in_fit, lengths, blocks, one_block, used_in}
use Rattle.record.proofs.KindLaws.{packet_fit}
use Rattle.record.specs.Updates.{in_shorter}
use Rattle.record.specs.declared.groups.Lists.{Lists}
use Rattle.record.specs.declared.groups.Channel.{Channel}
use Rattle.record.specs.declared.groups.Incoming.{Incoming}
use Rattle.record.specs.declared.groups.Marks.{Marks}
use Rattle.peer.specs.Damage.{sound}
use Rattle.peer.specs.Sounds.{Whole, Sounds}
use Rattle.peer.specs.declared.settings.Settings.{Settings}
use Rattle.peer.specs.declared.Peer.{Peer}
use Rattle.peer.proofs.Sound.{gated_sounds}
use Rattle.peer.proofs.Clauses.{Clauses, sound_clauses, clauses_sound}
use Rattle.receive.specs.Calls.{without_first, cleared_by, taken, receives_from, receives_sound, receives}
use Rattle.peer.proofs.InClauses.{InClauses, in_clauses, clauses_in, shorter_items, used_from, total_low, clauses_less}

-- the lists fit their pools
shorter_fits : (l : InList) → leb l.len incoming ≡ true → leb (in_shorter l).len incoming ≡ true
shorter_fits l e =
    le-leb (length (without (in_items l) 0)) incoming
    (without_fits incoming (in_items l) (omega (arith, leb-true l.len incoming e, length-take l.len l.slots)) 0)

without_fit : (l : Lists) → lists_fit l ≡ true → lists_fit (without_first l) ≡ true
without_fit l e = last (leb l.sent.len outgoing) (leb l.send_reliable.len outgoing) (leb l.outgoing.len outgoing) e
  where
    last : (a b c : Bool) → both a (both b (both c (leb l.dispatched.len incoming))) ≡ true
        → both a (both b (both c (leb (in_shorter l.dispatched).len incoming))) ≡ true
    last a b c e =
        let d = leb l.dispatched.len incoming in
        let f = both_right a (both b (both c d)) e in
        let g = both_right b (both c d) f in
        both_true a (both b (both c _)) (both_left a (both b (both c d)) e)
        (both_true b (both c _) (both_left b (both c d) f)
        (both_true c _ (both_left c d g) (shorter_fits l.dispatched (both_right c d g))))

-- a difference that does not wrap
pub minus_plain : (t n rest : ℕ) → t ≡ n + rest → t < 2 ^ 32 → minus 32 t n ≡ rest
minus_plain t n rest e h = omega arith

-- where no slot of a list is a block, one that stands there is none
none_there : (slots : List Incoming) (xs : List ℕ) → blocks slots xs ≡ 0 → (k : ℕ) → 0 < times xs k → is_block (get_or slots k no_incoming) ≡ false
unfolding blocks
none_there slots [] e k h = absurd (omega arith)
none_there slots (x ∷ xs) e k h = go (none_there slots xs) (is_block (get_or slots x no_incoming)) refl e (eqb x k) refl h
  where
    go : (blocks slots xs ≡ 0 → (j : ℕ) → 0 < times xs j → is_block (get_or slots j no_incoming) ≡ false)
        → (b : Bool) → is_block (get_or slots x no_incoming) ≡ b → pick b 1 0 + blocks slots xs ≡ 0
        → (c : Bool) → eqb x k ≡ c → 0 < pick c 1 0 + times xs k → is_block (get_or slots k no_incoming) ≡ false
    go rest true z n c t h = absurd (omega arith)
    go rest false z n true t h = let is : x ≡ k = eqb-true x k t in rw is at z
    go rest false z n false t h = rest (omega arith) k (omega arith)

-- with a block at the head there is no other
no_other : (m : Marks) (n : ℕ) → one_block m (1 + n) ≡ true → n ≡ 0
no_other m n e = omega (arith, eqb-true (1 + n) 1 (rw (ne_eqb (1 + n) 0 (λ z. omega (arith, z))) at e))

-- the incoming pool without the head
module _ (marks : Marks) (slots : List Incoming) (l : Lists) (cs : List Channel) (count total : ℕ) (w : InClauses marks slots l cs count total)
    (s : ℕ) (rest : List ℕ) (e : in_items l.dispatched ≡ s ∷ rest) where
  abbrev head : Incoming
  head = get_or slots s no_incoming

  abbrev size : ℕ
  size = head.length

  before : used_in l cs ≡ s ∷ (rest ++ held cs)
  before = used_from l cs (s ∷ rest) e

  after : used_in (without_first l) cs ≡ rest ++ held cs
  after = used_from (without_first l) cs rest (shorter_items l.dispatched s rest e)

  fewer : (k : ℕ) → times (used_in (without_first l) cs) k ≤ times (used_in l cs) k
  fewer k = omega (arith, ap (λ (xs : List ℕ). times xs k) before, ap (λ (xs : List ℕ). times xs k) after)

  pub sum : total ≡ size + lengths slots (used_in (without_first l) cs)
  unfolding lengths
  sum = w.total ∙ ap (lengths slots) before ∙ ap (λ (xs : List ℕ). size + lengths slots xs) (sym after)

  -- the blocks that stay
  abbrev others : ℕ
  others = blocks slots (used_in (without_first l) cs)

  counted : one_block marks (pick (is_block head) 1 0 + others) ≡ true
  unfolding blocks
  counted =
      ap (λ (xs : List ℕ). one_block marks (pick (is_block head) 1 0 + blocks slots xs)) after
      ∙ sym (ap (λ (xs : List ℕ). one_block marks (blocks slots xs)) before)
      ∙ w.block

  cleared_fit : others ≡ 0 → (k : ℕ) → 0 < times (used_in (without_first l) cs) k → in_fit marks slots count k ≡ true → in_fit no_marks slots count k ≡ true
  cleared_fit none k h f =
      let i = get_or slots k no_incoming in
      let low = ltb i.channel count in
      both_true (kind_fit no_marks i) low
      (packet_fit marks no_marks i (none_there slots (used_in (without_first l) cs) none k h) (both_left (kind_fit marks i) low f))
      (both_right (kind_fit marks i) low f)

  without_clauses : InClauses (cleared_by head marks) slots (without_first l) cs count (minus 32 total size)
  without_clauses = go (is_block head) counted
    where
      lower : minus 32 total size ≡ lengths slots (used_in (without_first l) cs)
      lower = minus_plain total size (lengths slots (used_in (without_first l) cs)) sum (omega (arith, total_low marks slots l cs count total w))

      less : (o : Marks) → ((k : ℕ) → 0 < times (used_in (without_first l) cs) k → in_fit marks slots count k ≡ true → in_fit o slots count k ≡ true)
          → one_block o others ≡ true → InClauses o slots (without_first l) cs count (minus 32 total size)
      less o fits b = clauses_less marks slots l cs count total w o (without_first l) (minus 32 total size) fewer fits lower b

      go : (b : Bool) → one_block marks (pick b 1 0 + others) ≡ true → InClauses (pick b no_marks marks) slots (without_first l) cs count (minus 32 total size)
      go true e =
          let none : others ≡ 0 = no_other marks others e in
          less no_marks (cleared_fit none) (ap (one_block no_marks) none)
      go false e =
          let plain : others ≡ 0 + others = omega arith in
          less marks (λ k h f. f) (ap (one_block marks) plain ∙ e)

taken-sound : (s : ℕ) (rest : List ℕ) (p : Peer) → in_items p.lists.dispatched ≡ s ∷ rest → Clauses p → sound (taken s p) ≡ true
taken-sound s rest p e w =
    let cs = below p.channels p.standing.channels in
    let count = p.standing.channels in
    let total = p.waiting.total in
    let i = get_or p.incoming s no_incoming in
    clauses_sound (taken s p)
    (record {
      range = w.range;
      lists = without_fit p.lists w.lists;
      held = w.held;
      exists = w.exists;
      single = w.single;
      fit = w.fit;
      sent = w.sent;
      arrived =
          clauses_in (cleared_by i p.marks) p.incoming (without_first p.lists) cs count (minus 32 total i.length)
          (without_clauses p.marks p.incoming p.lists cs count total
          (in_clauses p.marks p.incoming p.lists cs count total w.arrived) s rest e);
    })

receive_stays : (p : Peer) → Whole p → sound p ≡ true → sound (receives_sound p).after ≡ true
receive_stays p l h = go (in_items p.lists.dispatched) refl
  where
    go : (xs : List ℕ) → in_items p.lists.dispatched ≡ xs → sound (receives_from (first xs) p).after ≡ true
    go [] e = h
    go (s ∷ rest) e = taken-sound s rest p e (sound_clauses p h)

receive_whole : (p : Peer) → Whole p → Whole (receives_sound p).after
receive_whole p l = go (first (in_items p.lists.dispatched))
  where
    go : (f : Option ℕ) → Whole (receives_from f p).after
    go None = l
    go (Some s) = record { channels = l.channels; outgoing = l.outgoing; incoming = l.incoming }

pub receive_sounds : (s : Settings) → Sounds (receives s)
receive_sounds s = gated_sounds s receives_sound receive_stays receive_whole
