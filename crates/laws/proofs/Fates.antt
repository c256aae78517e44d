-- C-11: what a piece's fate says of the record. A first piece: no unfinished block of its start on its channel, its start not passed over, its fields fit, no
-- other block there, a slot free. A later piece: the slot of that block, fields that fit and are like the first piece's, its mark not set.
-- The argument: by cases on the tests, in their order; a search that finds a slot stopped there.
use Rattle.std.specs.Prelude.{None, Option, Some}
use Prim.Native.Nat.{ℕ, ◌+◌, ◌-◌, ◌<◌, ◌≤◌}
use mathlib.Core.Path.{◌≡◌, refl}
use mathlib.Core.Bool.{Bool, true, false, not}
use mathlib.Core.List.{List, [], ◌∷◌}
use native.Mathlib.Omega.{arith}
use lib.Dec.{eqb, leb, ltb}
use lib.ListN.{get_or}
use borrow.Author.Tests.{eqb-true, eqb-false, eq-eqb, leb-true, ltb-true}
use Rattle.numbers.specs.Pick.{pick, both}
use Rattle.numbers.proofs.BoolLaws.{both_left, both_right}
use Rattle.command.specs.declared.fields.Fragment.{Fragment}
use Rattle.record.specs.Lists.{in_items}
use Rattle.record.proofs.Keeps.{times}
use Rattle.record.specs.Fresh.{no_incoming}
use Rattle.record.specs.Marks.{most_pieces, piece_marked}
use Rattle.record.specs.Blocks.{most_bytes, is_block}
use Rattle.record.specs.declared.groups.Incoming.{Incoming}
use Rattle.blocks.specs.Blocks.{fields_fit, like_first}
use Rattle.peer.specs.States.{disconnect_later}
use Rattle.peer.specs.declared.settings.Settings.{Settings}
use Rattle.peer.specs.declared.Peer.{Peer}
use Rattle.arrival.specs.Storing.{free_slot}
use Rattle.arrival.specs.Arrivals.{room_of}
use Rattle.arrival.specs.declared.Fate.{Fate as Room}
use Rattle.arrival.specs.declared.Fate.TheVariants as room
use Rattle.arrival.proofs.Laws.{room_stored}
use Rattle.arrive_reliable.specs.Holding.{is_passed}
use Rattle.arrive_fragment.specs.Pieces.{channel_of, is_unfinished, unfinished, unfinished_on, any_block, opens, first_fate, later_fate, fate_by, fate_on}
use Rattle.arrive_fragment.specs.declared.Piece.{Piece}
use Rattle.arrive_fragment.specs.declared.Fate.TheVariants as fate

-- ---- a piece's fields, by name
pub record FieldsFit (packet : ℕ) (f : Fragment) : Type 0 where
  pub some : 1 ≤ f.count
  pub few : f.count ≤ most_pieces
  pub number : f.number < f.count
  pub short : f.total ≤ most_bytes
  pub allowed : f.total ≤ packet
  pub begins : f.offset < f.total
  pub ends : f.offset + f.length ≤ f.total

pub fields_fit_lem : (packet : ℕ) (f : Fragment) → fields_fit packet f ≡ true → FieldsFit packet f
fields_fit_lem packet f e =
    let a = leb 1 f.count in
    let b = leb f.count most_pieces in
    let c = ltb f.number f.count in
    let d = leb f.total most_bytes in
    let g = leb f.total packet in
    let h = ltb f.offset f.total in
    let i = leb f.length (f.total - f.offset) in
    let x = both_left (both a b) (both c (both (both d g) (both h i))) e in
    let y = both_right (both a b) (both c (both (both d g) (both h i))) e in
    let z = both_right c (both (both d g) (both h i)) y in
    let t = both_left (both d g) (both h i) z in
    let u = both_right (both d g) (both h i) z in
    let begins = ltb-true f.offset f.total (both_left h i u) in
    let length = leb-true f.length (f.total - f.offset) (both_right h i u) in
    record {
      some = leb-true 1 f.count (both_left a b x);
      few = leb-true f.count most_pieces (both_right a b x);
      number = ltb-true f.number f.count (both_left c (both (both d g) (both h i)) y);
      short = leb-true f.total most_bytes (both_left d g t);
      allowed = leb-true f.total packet (both_right d g t);
      begins = begins;
      ends = omega (arith, begins, length);
    }

-- a later piece has the first one's count and total
pub like_count : (f : Fragment) (i : Incoming) → like_first f i ≡ true → f.count ≡ i.fragments
like_count f i e = eqb-true f.count i.fragments (both_left (eqb f.count i.fragments) (eqb f.total i.length) e)

pub like_total : (f : Fragment) (i : Incoming) → like_first f i ≡ true → f.total ≡ i.length
like_total f i e = eqb-true f.total i.length (both_right (eqb f.count i.fragments) (eqb f.total i.length) e)

-- ---- the unfinished block that was found stands in the list
pub record Found (slots : List Incoming) (xs : List ℕ) (start n : ℕ) : Type 0 where
  pub named : 0 < times xs n
  pub is : is_unfinished start (get_or slots n no_incoming) ≡ true

pub unfinished_found : (slots : List Incoming) (xs : List ℕ) (start n : ℕ) → unfinished slots xs start ≡ Some n → Found slots xs start n
unfolding unfinished
unfinished_found slots [] start n e = let z : ◌≡◌ {A = ℕ} 0 1 = cc in absurd (omega arith)
unfinished_found slots (x ∷ xs) start n e = go (unfinished_found slots xs start n) (is_unfinished start (get_or slots x no_incoming)) refl e
  where
    go : (unfinished slots xs start ≡ Some n → Found slots xs start n) → (b : Bool) → is_unfinished start (get_or slots x no_incoming) ≡ b
        → pick b (Some x) (unfinished slots xs start) ≡ Some n → Found slots (x ∷ xs) start n
    go rest true t e =
        let z : x ≡ n = cc in
        record { named = rw (eq-eqb x n z) (omega arith); is = rw z at t }
    go rest false t e = let f = rest e in record { named = omega (arith, f.named); is = f.is }

-- and where none was found none stands there
pub unfinished_none : (slots : List Incoming) (xs : List ℕ) (start : ℕ) → unfinished slots xs start ≡ None
    → (k : ℕ) → 0 < times xs k → is_unfinished start (get_or slots k no_incoming) ≡ false
unfolding unfinished
unfinished_none slots [] start e k h = absurd (omega (arith, h))
unfinished_none slots (x ∷ xs) start e k h = go (unfinished_none slots xs start) (is_unfinished start (get_or slots x no_incoming)) refl e (eqb x k) refl h
  where
    go : (unfinished slots xs start ≡ None → (j : ℕ) → 0 < times xs j → is_unfinished start (get_or slots j no_incoming) ≡ false)
        → (b : Bool) → is_unfinished start (get_or slots x no_incoming) ≡ b → pick b (Some x) (unfinished slots xs start) ≡ None
        → (c : Bool) → eqb x k ≡ c → 0 < pick c 1 0 + times xs k → is_unfinished start (get_or slots k no_incoming) ≡ false
    go rest true t e c u h = let z : ◌≡◌ {A = ℕ} 0 1 = cc in absurd (omega arith)
    go rest false t e true u h = let is : x ≡ k = eqb-true x k u in rw is at t
    go rest false t e false u h = rest e k (omega (arith, h))

-- what an unfinished block's slot says
module _ (start : ℕ) (i : Incoming) (e : is_unfinished start i ≡ true) where
  abbrev left : Bool
  left = not (eqb i.remaining 0)

  abbrev numbered : Bool
  numbered = eqb i.number.0 start

  pub unfinished_block : is_block i ≡ true
  unfinished_block = both_left (is_block i) (both left numbered) e

  pub unfinished_left : i.remaining ≡ 0 → ⊥
  unfinished_left z = go (eqb i.remaining 0) (eq-eqb i.remaining 0 z) (both_left left numbered (both_right (is_block i) (both left numbered) e))
    where
      go : (b : Bool) → b ≡ true → not b ≡ true → ⊥
      go true y w = let v : ◌≡◌ {A = ℕ} 0 1 = cc in omega arith
      go false y w = let v : ◌≡◌ {A = ℕ} 0 1 = cc in omega arith

  pub unfinished_start : i.number.0 ≡ start
  unfinished_start = eqb-true i.number.0 start (both_right left numbered (both_right (is_block i) (both left numbered) e))

-- ---- the fates
pub record FirstPiece (s : Settings) (a : Piece) (p : Peer) (n : ℕ) : Type 0 where
  pub state : p.standing.state ≡ disconnect_later → ⊥
  pub none : unfinished_on a p ≡ None
  pub new : is_passed p.incoming (channel_of a p) a.start.0 ≡ false
  pub fit : fields_fit s.packet a.fragment ≡ true
  pub alone : any_block p ≡ false
  pub room : room_of s p ≡ room.Stored n
  pub free : free_slot p.lists p.channels p.standing.channels ≡ Some n

pub record LaterPiece (s : Settings) (a : Piece) (p : Peer) (n : ℕ) : Type 0 where
  pub state : p.standing.state ≡ disconnect_later → ⊥
  pub own : unfinished_on a p ≡ Some n
  pub found : Found p.incoming (in_items (channel_of a p).held) a.start.0 n
  pub fit : fields_fit s.packet a.fragment ≡ true
  pub like : like_first a.fragment (get_or p.incoming n no_incoming) ≡ true
  pub new : piece_marked p.marks a.fragment.number ≡ false

-- the tests apart
opens_first : (another : Bool) (r : Room) (n : ℕ) → opens another r ≡ fate.First n → (another ≡ false) × (r ≡ room.Stored n)
opens_first another room.Passed n e = let z : ◌≡◌ {A = ℕ} 0 1 = cc in absurd (omega arith)
opens_first another room.NoRoom n e = let z : ◌≡◌ {A = ℕ} 0 1 = cc in absurd (omega arith)
opens_first true (room.Stored k) n e = let z : ◌≡◌ {A = ℕ} 0 1 = cc in absurd (omega arith)
opens_first false (room.Stored k) n e = let z : k ≡ n = cc in (refl, rw z)

opens_later : (another : Bool) (r : Room) (n : ℕ) → opens another r ≡ fate.Later n → ⊥
opens_later another room.Passed n e = let z : ◌≡◌ {A = ℕ} 0 1 = cc in omega arith
opens_later another room.NoRoom n e = let z : ◌≡◌ {A = ℕ} 0 1 = cc in omega arith
opens_later true (room.Stored k) n e = let z : ◌≡◌ {A = ℕ} 0 1 = cc in omega arith
opens_later false (room.Stored k) n e = let z : ◌≡◌ {A = ℕ} 0 1 = cc in omega arith

first_tests : (passed fit another : Bool) (r : Room) (n : ℕ) → first_fate passed fit another r ≡ fate.First n
    → (passed ≡ false) × (fit ≡ true) × (another ≡ false) × (r ≡ room.Stored n)
first_tests true fit another r n e = let z : ◌≡◌ {A = ℕ} 0 1 = cc in absurd (omega arith)
first_tests false false another r n e = let z : ◌≡◌ {A = ℕ} 0 1 = cc in absurd (omega arith)
first_tests false true another r n e = let o = opens_first another r n e in (refl, refl, o.0, o.1)

first_later : (passed fit another : Bool) (r : Room) (n : ℕ) → first_fate passed fit another r ≡ fate.Later n → ⊥
first_later true fit another r n e = let z : ◌≡◌ {A = ℕ} 0 1 = cc in omega arith
first_later false false another r n e = let z : ◌≡◌ {A = ℕ} 0 1 = cc in omega arith
first_later false true another r n e = opens_later another r n e

later_tests : (fit marked : Bool) (m n : ℕ) → later_fate fit marked m ≡ fate.Later n → (fit ≡ true) × (marked ≡ false) × (m ≡ n)
later_tests false marked m n e = let z : ◌≡◌ {A = ℕ} 0 1 = cc in absurd (omega arith)
later_tests true true m n e = let z : ◌≡◌ {A = ℕ} 0 1 = cc in absurd (omega arith)
later_tests true false m n e = let z : m ≡ n = cc in (refl, refl, z)

later_first : (fit marked : Bool) (m n : ℕ) → later_fate fit marked m ≡ fate.First n → ⊥
later_first false marked m n e = let z : ◌≡◌ {A = ℕ} 0 1 = cc in omega arith
later_first true true m n e = let z : ◌≡◌ {A = ℕ} 0 1 = cc in omega arith
later_first true false m n e = let z : ◌≡◌ {A = ℕ} 0 1 = cc in omega arith

module _ (s : Settings) (a : Piece) (p : Peer) (n : ℕ) where
  abbrev later : Bool
  later = eqb p.standing.state disconnect_later

  pub first_piece : fate_on s a p ≡ fate.First n → FirstPiece s a p n
  first_piece = go later refl (unfinished_on a p) refl
    where
      go : (b : Bool) → later ≡ b → (f : Option ℕ) → unfinished_on a p ≡ f → pick b fate.Passed (fate_by f s a p) ≡ fate.First n → FirstPiece s a p n
      go true t f u e = let z : ◌≡◌ {A = ℕ} 0 1 = cc in absurd (omega arith)
      go false t (Some m) u e =
          absurd
          (later_first (both (fields_fit s.packet a.fragment) (like_first a.fragment (get_or p.incoming m no_incoming)))
          (piece_marked p.marks a.fragment.number) m n e)
      go false t None u e =
          let k = first_tests (is_passed p.incoming (channel_of a p) a.start.0) (fields_fit s.packet a.fragment) (any_block p) (room_of s p) n e in
          record {
            state = eqb-false p.standing.state disconnect_later t;
            none = u;
            new = k.0;
            fit = k.1;
            alone = k.2;
            room = k.3;
            free = room_stored s p.standing.state p.waiting.total _ n k.3;
          }

  pub later_piece : fate_on s a p ≡ fate.Later n → LaterPiece s a p n
  later_piece = go later refl (unfinished_on a p) refl
    where
      go : (b : Bool) → later ≡ b → (f : Option ℕ) → unfinished_on a p ≡ f → pick b fate.Passed (fate_by f s a p) ≡ fate.Later n → LaterPiece s a p n
      go true t f u e = let z : ◌≡◌ {A = ℕ} 0 1 = cc in absurd (omega arith)
      go false t None u e =
          absurd (first_later (is_passed p.incoming (channel_of a p) a.start.0) (fields_fit s.packet a.fragment) (any_block p) (room_of s p) n e)
      go false t (Some m) u e =
          let fit = fields_fit s.packet a.fragment in
          let like = like_first a.fragment (get_or p.incoming m no_incoming) in
          let k = later_tests (both fit like) (piece_marked p.marks a.fragment.number) m n e in
          let is : unfinished_on a p ≡ Some n = rw k.2 at u in
          record {
            state = eqb-false p.standing.state disconnect_later t;
            own = is;
            found = unfinished_found p.incoming (in_items (channel_of a p).held) a.start.0 n is;
            fit = both_left fit like k.0;
            like = rw k.2 at (both_right fit like k.0);
            new = k.1;
          }
