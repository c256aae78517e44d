-- The walk over a list in its place, cell by cell: what is left of it, a turn, where it stops, its end.
-- The argument: the walk over the whole list is the walk over what is left, from the marks so far; what is left is the cell at place k and what is left after it.
use Prim.Native.Nat.{ℕ, ◌+◌, ◌≤◌, ◌<◌}
use mathlib.Core.Path.{◌≡◌, refl, ap, sym, ◌∙◌}
use mathlib.Core.Bool.{Bool, true, false}
use mathlib.Core.List.{List, []}
use native.Mathlib.Omega.{arith}
use lib.Dec.{leb}
use lib.ListN.{length, get_or, set, drop}
use borrow.Author.Tests.{lt-ltb, le-ltb, ne_eqb, le-leb, lt-leb}
use Rattle.std.specs.List.{between}
use Rattle.std.proofs.lemmas.List.Edits.{get_or-between}
use Rattle.numbers.specs.Pick.{pick}
use Rattle.numbers.proofs.BoolLaws.{both_true, both_false}
use Rattle.cells.specs.Free.{marked_all}
use Rattle.cells.proofs.Views.{rest_step, rest_end}
use Rattle.lists.specs.Rows.{low, len_of, items_of, row_at}
use Rattle.lists.proofs.Placed.{row_is, items_length, item_at}
use Rattle.record.specs.Fresh.{no_incoming}
use Rattle.record.specs.Blocks.{is_block}
use Rattle.record.specs.Damage.{lengths, blocks}
use Rattle.record.specs.declared.groups.Incoming.{Incoming}
use Rattle.damage.specs.CodeInWalks.{passes}
use Rattle.gate.specs.CodeHalves.{Passes}

-- the list of n cells at a place, and its length v
pub record Listed (ws : List ℕ) (at n v : ℕ) : Type 0 where
  pub room : at + n + 1 ≤ length ws
  pub is : v ≡ low (get_or ws at 0)

-- the walk over xs from marks m₀ has come to m and place k
pub record Left (f : ℕ → Bool) (m₀ xs m : List ℕ) (k : ℕ) : Type 0 where
  pub is : passes f m₀ xs ≡ passes f m (drop k xs)
  pub marks : marked_all m₀ xs ≡ marked_all m (drop k xs)

pub left_all : (f : ℕ → Bool) (m xs : List ℕ) → Left f m xs m 0
left_all f m xs = record { is = refl; marks = refl }

module _ (f : ℕ → Bool) (ws : List ℕ) (at n v : ℕ) (i : Listed ws at n v) where
  abbrev row : List ℕ
  row = row_at at n ws

  abbrev items : List ℕ
  items = items_of row

  len_is : len_of row ≡ v
  len_is = ap len_of (row_is ws at n i.room) ∙ sym i.is

  -- "longer than its pool"
  pub long : (m after : List ℕ) → n < v → Passes f n m row false after
  long m after p =
      record {
        is = rw (len_is, lt-leb v n p);
        marks = λ q. let z : ◌≡◌ {A = ℕ} 0 1 = cc in absurd (omega arith);
      }

  module _ (low-v : v ≤ n) (m₀ m : List ℕ) (k : ℕ) (l : Left f m₀ items m k) where
    length_is : length items ≡ v
    length_is = items_length ws at n i.room ∙ omega (arith, i.is)

    pub end : v ≤ k → Passes f n m₀ row true m
    unfolding passes marked_all
    end h =
        let e : drop k items ≡ [] = rest_end items k (omega (arith, length_is)) in
        record {
          is = sym (both_true (leb (len_of row) n) (passes f m₀ items) (ap (λ (x : ℕ). leb x n) len_is ∙ le-leb v n low-v) (l.is ∙ ap (passes f m) e));
          marks = λ q. sym (l.marks ∙ ap (marked_all m) e);
        }

    pub summed_end : (slots : List Incoming) → v ≤ k → lengths slots (drop k items) ≡ 0
    unfolding lengths
    summed_end slots h = ap (lengths slots) (rest_end items k (omega (arith, length_is)))

    pub counted_end : (slots : List Incoming) → v ≤ k → blocks slots (drop k items) ≡ 0
    unfolding blocks
    counted_end slots h = ap (blocks slots) (rest_end items k (omega (arith, length_is)))

-- the walk has come to place k, short of the list's end, and to the slot s there
pub record Turn (f : ℕ → Bool) (ws : List ℕ) (at n : ℕ) (m₀ m : List ℕ) (k s : ℕ) : Type 0 where
  pub long : ℕ
  pub list : Listed ws at n long
  pub few : long ≤ n
  pub left : Left f m₀ (items_of (row_at at n ws)) m k
  pub here : k < long
  pub is : s ≡ low (get_or ws (at + 1 + k) 0)

-- the cells there are those of the list up to its length
pub turn_at : (f : ℕ → Bool) (ws : List ℕ) (at n v : ℕ) (m₀ m : List ℕ) (k s : ℕ) → at + n + 1 ≤ length ws → v ≡ low (get_or ws at 0) → v ≤ n → Left f m₀ (items_of (row_at at n ws)) m k → k < v
    → s ≡ low (get_or (between (at + 1) (at + 1 + v) ws) k 0) → Turn f ws at n m₀ m k s
turn_at f ws at n v m₀ m k s room is few left here e =
    record {
      long = v;
      list = record { room = room; is = is };
      few = few;
      left = left;
      here = here;
      is = e ∙ ap low (get_or-between ws (at + 1) (at + 1 + v) k 0 (omega arith));
    }

module _ {f : ℕ → Bool} {ws : List ℕ} {at n : ℕ} {m₀ m : List ℕ} {k s : ℕ} (t : Turn f ws at n m₀ m k s) where
  abbrev cells : List ℕ
  cells = items_of (row_at at n ws)

  there : k < length cells
  there = let e = length_is f ws at n t.long t.list t.few m₀ m k t.left in omega (arith, e, t.here)

  slot_is : get_or cells k 0 ≡ s
  slot_is = sym (t.is ∙ item_at ws at n t.list.room k there)

  stop : passes f m (drop k cells) ≡ false → Passes f n m₀ (row_at at n ws) false m
  stop e =
      record {
        is = sym (both_false (leb (len_of (row_at at n ws)) n) (passes f m₀ cells) (t.left.is ∙ e));
        marks = λ q. let z : ◌≡◌ {A = ℕ} 0 1 = cc in absurd (omega arith);
      }

  pub past : length m ≤ s → Passes f n m₀ (row_at at n ws) false m
  unfolding passes
  past p = stop (rw (rest_step cells k 0 there, slot_is, le-ltb s (length m) p))

  pub twice : s < length m → get_or m s 0 ≡ 1 → Passes f n m₀ (row_at at n ws) false m
  unfolding passes
  twice p y = stop (rw (rest_step cells k 0 there, slot_is, lt-ltb s (length m) p, y))

  module _ (p : s < length m) (new : get_or m s 0 ≡ 1 → ⊥) where
    pub unfit : f s ≡ false → Passes f n m₀ (row_at at n ws) false m
    unfolding passes
    unfit e = stop (rw (rest_step cells k 0 there, slot_is, lt-ltb s (length m) p, ne_eqb (get_or m s 0) 1 new, e))

    pub turn : f s ≡ true → Left f m₀ cells (set m s 1) (k + 1)
    unfolding passes marked_all
    turn e =
        record {
          is = t.left.is ∙ rw (rest_step cells k 0 there, slot_is, lt-ltb s (length m) p, ne_eqb (get_or m s 0) 1 new, e);
          marks = t.left.marks ∙ rw (rest_step cells k 0 there, slot_is);
        }

  pub summed : (slots : List Incoming) → lengths slots (drop k cells) ≡ (get_or slots s no_incoming).length + lengths slots (drop (k + 1) cells)
  unfolding lengths
  summed slots = rw (rest_step cells k 0 there, slot_is)

  pub counted : (slots : List Incoming) → blocks slots (drop k cells) ≡ pick (is_block (get_or slots s no_incoming)) 1 0 + blocks slots (drop (k + 1) cells)
  unfolding blocks
  counted slots = rw (rest_step cells k 0 there, slot_is)
