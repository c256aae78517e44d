-- What was cut comes together: each block of a channel and a start that joins dispatched has the packet's bytes, where every piece that comes there is one of those that
-- the packet was cut into. The argument: while such a block is there, its writes are its pieces' in some order, and a piece is in it exactly where it is marked; complete,
-- each is marked, so that the writes make the packet (laws Assembling). So no block with other bytes is put in, and what joins was put in.
use Prim.Native.Nat.{ℕ, ◌+◌, ◌≤◌, ◌<◌}
use mathlib.Core.Path.{◌≡◌, refl, ap, ap₂, sym, ◌∙◌}
use mathlib.Core.Bool.{Bool, true, false, not}
use mathlib.Core.List.{List, [], ◌∷◌, ◌++◌, map, map-append}
use native.Mathlib.Omega.{arith}
use lib.Dec.{eqb, leb}
use lib.ListN.{length, take, length-replicate}
use borrow.Author.Tests.{eqb-true, eq-eqb, leb-true}
use Rattle.numbers.specs.Pick.{pick, both}
use Rattle.numbers.proofs.BoolLaws.{both_left, both_right, both_true, both_false, same_test}
use Rattle.cells.specs.Runs.{has}
use Rattle.record.proofs.Keeps.{has_append}
use Rattle.record.specs.Sizes.{second_length}
use Rattle.record.specs.Marks.{most_pieces, no_marks, piece_marked, with_piece}
use Rattle.record.specs.Blocks.{most_bytes}
use Rattle.record.specs.declared.groups.Incoming.{Incoming}
use Rattle.record.specs.declared.groups.Marks.{Marks}
use Rattle.blocks.specs.Writing.{Write, all_written}
use Rattle.blocks.proofs.BlockLaws.{complete}
use Rattle.blocks.proofs.MarkLaws.{marked_with, marked_none}
use Rattle.packets.specs.declared.Cut.{Cut}
use Rattle.peer.specs.Outcome.{State}
use Rattle.peer.specs.Sounds.{Whole}
use Rattle.peer.specs.declared.settings.Settings.{Settings}
use Rattle.lifecycle.specs.Calls.{kept}
use Rattle.arrival.specs.declared.Arrival.{Arrival}
use Rattle.arrive_unsequenced.specs.Calls.{arrives_unsequenced}
use Rattle.arrive_reliable.specs.Calls.{arrives_reliable}
use Rattle.arrive_fragment.specs.Pieces.{unfinished_on}
use Rattle.arrive_fragment.specs.Calls.{arrives_fragment}
use Rattle.arrive_fragment.specs.declared.Piece.{Piece}
use Rattle.laws.specs.Assembling.{CutOf, piece_write}
use Rattle.laws.proofs.Assembling.{assembled}
use Rattle.link.specs.Steps.{calls}
use Rattle.link.specs.Runs.{Asked, comes_to, says_one, Packet, reset_state}
use Rattle.link_in.specs.declared.calls.Call.TheVariants as inw
use Rattle.link.specs.declared.calls.Call.{Call}
use Rattle.link.specs.declared.calls.Call.TheVariants as call
use Rattle.promises.specs.Counts.{count, those}
use Rattle.promises.specs.Packets.{payload, Building, builds, block_built, put_in, Ledger, fresh_ledger, entered, is_reset, writes, ledger}
use Rattle.promises.specs.Blocks.{IsPieceOf, OnlyPieces, AllOnly, is_block_of, AllBytes, CutTogether}
use Rattle.promises.proofs.Sounding.{fresh_whole, call_sounds}
use Rattle.promises.proofs.Presence.{count_append, count_none}
use Rattle.promises.proofs.Building.{Stock}
use Rattle.promises.proofs.Fragments.{zeros, Blocked, blocked_grows, Grows, built, Complete, fragment_pieced}
use Rattle.promises.proofs.Stocks.{fresh_stock, GrowsBy, call_stock}
use Rattle.promises.proofs.Sorts.{put_none}
use Rattle.promises.proofs.Comings.{joined-stored}

-- ---- the same bytes
unfoldable same : List ℕ → List ℕ → Bool
same [] [] = true
same [] (y ∷ ys) = false
same (x ∷ xs) [] = false
same (x ∷ xs) (y ∷ ys) = both (eqb x y) (same xs ys)

same_is : (xs ys : List ℕ) → same xs ys ≡ true → xs ≡ ys
unfolding same
same_is [] [] e = refl
same_is [] (y ∷ ys) e = let z : ◌≡◌ {A = ℕ} 0 1 = cc in absurd (omega arith)
same_is (x ∷ xs) [] e = let z : ◌≡◌ {A = ℕ} 0 1 = cc in absurd (omega arith)
same_is (x ∷ xs) (y ∷ ys) e =
    ap₂ (λ (k : ℕ) (ks : List ℕ). k ∷ ks) (eqb-true x y (both_left (eqb x y) (same xs ys) e)) (same_is xs ys (both_right (eqb x y) (same xs ys) e))

same_self : (xs : List ℕ) → same xs xs ≡ true
unfolding same
same_self [] = refl
same_self (x ∷ xs) = both_true (eqb x x) (same xs xs) (eq-eqb x x refl) (same_self xs)

-- ---- marks and the numbers in an order
one_more : (order : List ℕ) (j k : ℕ) → has (order ++ (j ∷ [])) k ≡ pick (eqb k j) true (has order k)
one_more order j k =
    has_append order (j ∷ []) k ∙ ap (λ (t : Bool). pick (has order k) true (pick t true false)) (same_test j k k j sym sym) ∙ either (has order k) (eqb k j)
  where
    either : (s t : Bool) → pick s true (pick t true false) ≡ pick t true s
    either true true = refl
    either true false = refl
    either false true = refl
    either false false = refl

module _ (channel start : ℕ) (packet : List ℕ) (cut : Cut) (cuts : CutOf packet cut) where
  -- what is known of the block of that start: its writes are these pieces', those that are marked
  record InOrder (b : Building) (m : Marks) (i : Incoming) : Type 0 where
    pub order : List ℕ
    pub writes : b.writes ≡ map (piece_write cut packet) order
    pub marked : (k : ℕ) → piece_marked m k ≡ has order k
    pub low : (k : ℕ) → has order k ≡ true → k < cut.count
    pub count : i.fragments ≡ cut.count
    pub total : i.length ≡ length packet

  record Cutting (b : Building) (m : Marks) (second : List ℕ) (i : Incoming) : Type 0 where
    pub blocked : Blocked b m second i
    pub so : i.channel ≡ channel → i.number.0 ≡ start → InOrder b m i

  -- the piece more
  low_more : (order : List ℕ) (j : ℕ) → j < cut.count → ((k : ℕ) → has order k ≡ true → k < cut.count)
      → (k : ℕ) → has (order ++ (j ∷ [])) k ≡ true → k < cut.count
  low_more order j here low k e = go (eqb k j) refl (sym (one_more order j k) ∙ e)
    where
      go : (t : Bool) → eqb k j ≡ t → pick t true (has order k) ≡ true → k < cut.count
      go true u h = omega (arith, here, eqb-true k j u)
      go false u h = low k h

  marked_more : (order : List ℕ) (j : ℕ) (m : Marks) → j < most_pieces → ((k : ℕ) → piece_marked m k ≡ has order k)
      → (k : ℕ) → piece_marked (with_piece m j) k ≡ has (order ++ (j ∷ [])) k
  marked_more order j m few marked k =
      marked_with m j k few ∙ ap (λ (t : Bool). pick (eqb k j) true t) (marked k) ∙ sym (one_more order j k)

  module _ (size : ℕ) (a : Piece) (datagram : List ℕ) (b : Building)
      (only : a.channel ≡ channel → a.start.0 ≡ start → IsPieceOf packet cut a datagram) where
    cut_grows : Grows Cutting size a datagram b
    cut_grows =
        record {
          opens = λ fit command left.
              record {
                blocked = (blocked_grows size a datagram b).opens fit command left;
                so = λ c n.
                    let p = only c n in
                    let j = a.fragment.number in
                    record {
                      order = j ∷ [];
                      writes = ap (λ (w : Write). w ∷ []) p.write;
                      marked = marked_more [] j no_marks (omega (arith, fit.number, fit.few)) marked_none;
                      low = low_more [] j (omega (arith, fit.number, p.count)) (λ k e. none e);
                      count = p.count;
                      total = p.total;
                    };
              };
          continues = λ n m second i fit k own new left.
              record {
                blocked = (blocked_grows size a datagram b).continues n m second i fit k.blocked own new left;
                so = λ c d.
                    let p = only (sym own.channel ∙ c) (sym own.number ∙ d) in
                    let o = k.so c d in
                    let j = a.fragment.number in
                    record {
                      order = o.order ++ (j ∷ []);
                      writes =
                          ap₂ (λ (vs : List Write) (w : Write). vs ++ (w ∷ [])) o.writes p.write
                          ∙ sym (map-append (piece_write cut packet) o.order (j ∷ []));
                      marked = marked_more o.order j m (omega (arith, fit.number, fit.few)) o.marked;
                      low = low_more o.order j (omega (arith, fit.number, p.count)) o.low;
                      count = o.count;
                      total = o.total;
                    };
              };
        }
      where
        none : {A : Type 0} → false ≡ true → A
        none e = let z : ◌≡◌ {A = ℕ} 0 1 = cc in absurd (omega arith)

  -- ---- complete, it is the packet
  whole_bytes : (a : Piece) (b : Building) → Complete (Cutting b) a → a.channel ≡ channel → a.start.0 ≡ start → (block_built a b).bytes ≡ packet
  whole_bytes a b c here at =
      let i = c.slot in
      let o = c.known.so (c.own.channel ∙ here) (c.own.number ∙ at) in
      let few = leb i.fragments most_pieces in
      let some = leb 1 i.length in
      let short = leb i.length most_bytes in
      let low : i.length ≤ most_bytes =
      leb-true i.length most_bytes (both_right some short (both_right few (both some short) (both_left (both few (both some short)) _ c.fit))) in
      let room : length packet ≤ length zeros = omega (arith, low, o.total, length-replicate {A = ℕ} second_length 0) in
      let long : a.fragment.total ≡ length packet = sym c.own.total ∙ o.total in
      ap₂ (λ (k : ℕ) (ws : List Write). take k (all_written zeros ws)) long o.writes
      ∙ assembled packet cut cuts o.order
      (record {
        each = λ k h. sym (o.marked k) ∙ complete c.marks i c.fit c.none k (omega (arith, h, o.count));
        below = o.low;
      })
      zeros room

  -- a block of that start with other bytes
  abbrev bad : Packet → Bool
  bad k = both (is_block_of channel start k) (not (same k.bytes packet))

  elsewhere : (k : Packet) → is_block_of channel start k ≡ false → bad k ≡ false
  elsewhere k e = ap (λ (t : Bool). both t (not (same k.bytes packet))) e

  packet_good : (t : Bool) (a : Arrival) (datagram : List ℕ) → count bad (pick t (payload a datagram ∷ []) []) ≡ 0
  packet_good t a datagram =
      put_none bad t (payload a datagram)
      (λ e. elsewhere (payload a datagram) (both_false (both (eqb a.channel channel) (eqb a.number.0 start)) false refl))

  block_good : (a : Piece) (b : Building) → Complete (Cutting b) a → bad (block_built a b) ≡ false
  block_good a b c = go (eqb a.channel channel) refl (eqb a.start.0 start) refl
    where
      go : (s : Bool) → eqb a.channel channel ≡ s → (t : Bool) → eqb a.start.0 start ≡ t
          → both (both (both s t) (not (eqb a.fragment.count 0))) (not (same (block_built a b).bytes packet)) ≡ false
      go true e true f =
          let is = whole_bytes a b c (eqb-true a.channel channel e) (eqb-true a.start.0 start f) in
          both_false (both true (not (eqb a.fragment.count 0))) (not (same (block_built a b).bytes packet))
          (ap (λ (bs : List ℕ). not (same bs packet)) is ∙ ap not (same_self packet))
      go true e false f = refl
      go false e t f = refl

  -- ---- one call
  cut_blocked : (b : Building) (m : Marks) (second : List ℕ) (i : Incoming) → Cutting b m second i → Blocked b m second i
  cut_blocked b m second i k = k.blocked

  grows_cut : (c : Call) (s : Settings) (datagram : List ℕ) (b : Building) → OnlyPieces channel start packet cut c datagram → GrowsBy Cutting s c datagram b
  grows_cut call.Reset s datagram b only = tt
  grows_cut (call.Begin mtu channels) s datagram b only = tt
  grows_cut (call.SetState state) s datagram b only = tt
  grows_cut (call.Outward c) s datagram b only = tt
  grows_cut (call.Inward (inw.UnsequencedArrival a group)) s datagram b only = tt
  grows_cut (call.Inward (inw.ReliableArrival a)) s datagram b only = tt
  grows_cut (call.Inward (inw.FragmentArrival a)) s datagram b only = cut_grows s.packet a datagram b only
  grows_cut (call.Inward (inw.Dispatch on)) s datagram b only = tt
  grows_cut (call.Inward inw.Receive) s datagram b only = tt

  put_good : (c : Call) (s : Settings) (datagram : List ℕ) (x : State) (b : Building) → Whole x.peer → OnlyPieces channel start packet cut c datagram
      → Stock (Cutting b) x → let w = (calls s c datagram x).answer in count bad (put_in c w datagram (builds c datagram x w b)) ≡ 0
  put_good call.Reset s datagram x b w only k = count_none bad
  put_good (call.Begin mtu channels) s datagram x b w only k = count_none bad
  put_good (call.SetState state) s datagram x b w only k = count_none bad
  put_good (call.Outward c) s datagram x b w only k = count_none bad
  put_good (call.Inward (inw.UnsequencedArrival a group)) s datagram x b w only k =
      packet_good (says_one (arrives_unsequenced s a group datagram x).answer) a datagram
  put_good (call.Inward (inw.ReliableArrival a)) s datagram x b w only k = packet_good (says_one (arrives_reliable s a datagram x).answer) a datagram
  put_good (call.Inward (inw.FragmentArrival a)) s datagram x b w only k =
      let t = says_one (arrives_fragment s a datagram x).answer in
      let d = built a datagram (unfinished_on a x.peer) t b in
      let full = eqb (length d.writes) a.fragment.count in
      put_none bad (both t full) (block_built a d)
      (λ e.
      block_good a d
      ((fragment_pieced Cutting cut_blocked s a datagram x b w (cut_grows s.packet a datagram b only) k).whole (both_left t full e)
      (eqb-true (length d.writes) a.fragment.count (both_right t full e))))
  put_good (call.Inward (inw.Dispatch on)) s datagram x b w only k = count_none bad
  put_good (call.Inward inw.Receive) s datagram x b w only k = count_none bad

  -- ---- a run
  record Stands (l : Ledger) (x : State) : Type 0 where
    pub whole : Whole x.peer
    pub stock : Stock (Cutting l.building) x
    pub good : count bad l.stored ≡ 0

  anew_good : (t : Bool) (l : Ledger) → count bad l.stored ≡ 0 → count bad (pick t fresh_ledger l).stored ≡ 0
  anew_good true l g = count_none bad
  anew_good false l g = g

  asked_stands : (a : Asked) (x : State) (l : Ledger) → OnlyPieces channel start packet cut a.call a.datagram → Stands l x
      → Stands (writes a x l) (comes_to a x).after
  asked_stands a x l only k =
      record {
        whole = (call_sounds a.settings a.call a.datagram x.store x.second).whole x.peer k.whole;
        stock =
            call_stock Cutting cut_blocked a.call a.settings a.datagram x l k.whole
            (grows_cut a.call a.settings a.datagram l.building only) k.stock;
        good =
            let o = comes_to a x in
            let put = put_in a.call o.answer a.datagram (builds a.call a.datagram x o.answer l.building) in
            anew_good (is_reset a.call o.answer) (entered a x o l)
            (omega (
              arith,
              k.good,
              put_good a.call a.settings a.datagram x l.building k.whole only k.stock,
              count_append bad l.stored put,
            ));
      }

  run_good : (asked : List Asked) (x : State) (l : Ledger) → AllOnly channel start packet cut asked → Stands l x
      → count bad (ledger asked x l).stored ≡ 0
  unfolding ledger
  run_good [] x l only k = k.good
  run_good (a ∷ rest) x l only k = run_good rest (comes_to a x).after (writes a x l) only.1 (asked_stands a x l only.0 k)

  -- none of a list is bad
  all_bytes : (ks : List Packet) → count bad ks ≡ 0 → AllBytes packet (those (is_block_of channel start) ks)
  unfolding count those
  all_bytes [] e = tt
  all_bytes (k ∷ ks) e = go (is_block_of channel start k) refl (same k.bytes packet) refl e (λ h. all_bytes ks h)
    where
      go : (s : Bool) → is_block_of channel start k ≡ s → (t : Bool) → same k.bytes packet ≡ t → pick (both s (not t)) 1 0 + count bad ks ≡ 0
          → (count bad ks ≡ 0 → AllBytes packet (those (is_block_of channel start) ks))
          → AllBytes packet (pick s (k ∷ those (is_block_of channel start) ks) (those (is_block_of channel start) ks))
      go true u true v e rest = (same_is k.bytes packet v, rest (omega (arith, e)))
      go true u false v e rest = absurd (omega (arith, e))
      go false u t v e rest = rest (omega (arith, e))

pub cut_together : CutTogether
cut_together mtu kept store second asked channel start packet cut cuts only =
    let x = reset_state mtu kept store second in
    let none =
    run_good channel start packet cut cuts asked x fresh_ledger only
    (record { whole = fresh_whole mtu kept; stock = fresh_stock mtu kept store second; good = count_none (bad channel start packet cut cuts) }) in
    all_bytes channel start packet cut cuts (ledger asked x fresh_ledger).joined
    (omega (arith, none, joined-stored mtu kept store second asked (bad channel start packet cut cuts)))
