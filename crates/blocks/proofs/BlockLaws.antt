-- C-11, "the block is complete exactly when all its pieces are marked": of marks and a slot that belong together. A new block's belong together, and a piece
-- that is marked and counted off keeps them so.
-- The argument: what remains and what is marked below the count make the count, since nothing past it is marked.
use Rattle.std.proofs.Common.{◌≡◌, ℕ, ◌+◌, ◌-◌, ◌<◌, ◌≤◌, Bool, true, false, eqb, ltb, leb, sym, ◌∙◌, zero-add, arith, ltb-true, eq-eqb, eqb-true, le-leb, leb-true}
use Rattle.numbers.specs.Pick.{both}
use Rattle.numbers.specs.Modulo.{minus}
use Rattle.numbers.specs.declared.counters.Reliable.{Reliable}
use Rattle.numbers.proofs.BoolLaws.{both_left, both_right}
use Rattle.command.specs.declared.fields.Fragment.{Fragment}
use Rattle.record.specs.declared.groups.Incoming.{Incoming}
use Rattle.record.specs.Marks.{most_pieces, no_marks, piece_marked, with_piece, marked_from, marked_count}
use Rattle.record.specs.Blocks.{most_bytes, block_fit}
use Rattle.blocks.specs.Blocks.{fields_fit, block_of, one_less}
use Rattle.record.specs.declared.groups.Marks.{Marks}
use Rattle.blocks.proofs.Counting.{split}
use Rattle.blocks.proofs.MarkLaws.{marked_none, all_alike, count_outside, count_with, full}

-- ---- the rules apart

block_rules : (a b c d e : Bool) → both (both a (both b c)) (both d e) ≡ true → (a ≡ true) × (b ≡ true) × (c ≡ true) × (d ≡ true) × (e ≡ true)
block_rules a b c d e h =
    let x = both_left (both a (both b c)) (both d e) h in
    let y = both_right (both a (both b c)) (both d e) h in
    let z = both_right a (both b c) x in
    (both_left a (both b c) x, both_left b c z, both_right b c z, both_left d e y, both_right d e y)

-- those of `fields_fit` that a new block needs
field_rules : (a b c d e f g : Bool) → both (both a b) (both c (both (both d e) (both f g))) ≡ true → (b ≡ true) × (d ≡ true) × (f ≡ true)
field_rules a b c d e f g h =
    let x = both_right c (both (both d e) (both f g)) (both_right (both a b) (both c (both (both d e) (both f g))) h) in (
      both_right a b (both_left (both a b) (both c (both (both d e) (both f g))) h),
      both_left d e (both_left (both d e) (both f g) x),
      both_left f g (both_right (both d e) (both f g) x),
    )

-- `block_fit`, its rules by name
record Fits (m : Marks) (slot : Incoming) : Type 0 where
  few : slot.fragments ≤ most_pieces
  some : 1 ≤ slot.length
  short : slot.length ≤ most_bytes
  count : slot.remaining + marked_count m ≡ slot.fragments
  none : marked_from m slot.fragments (most_pieces - slot.fragments) ≡ 0

fits : (m : Marks) (slot : Incoming) → Fits m slot → block_fit m slot ≡ true
fits m slot f =
    simp (
      le-leb _ _ f.few,
      le-leb _ _ f.some,
      le-leb _ _ f.short,
      eq-eqb (slot.remaining + marked_count m) slot.fragments f.count,
      eq-eqb (marked_from m slot.fragments (most_pieces - slot.fragments)) 0 f.none,
    )

module _ (m : Marks) (slot : Incoming) (fit : block_fit m slot ≡ true) where
  rules : Fits m slot
  rules =
      let r =
      block_rules
      (leb slot.fragments most_pieces)
      (leb 1 slot.length)
      (leb slot.length most_bytes)
      (eqb (slot.remaining + marked_count m) slot.fragments)
      (eqb (marked_from m slot.fragments (most_pieces - slot.fragments)) 0)
      fit in
      record {
        few = leb-true _ _ r.0;
        some = leb-true 1 slot.length r.1;
        short = leb-true _ _ r.2;
        count = eqb-true _ _ r.3;
        none = eqb-true _ _ r.4;
      }

  -- of the block's own pieces, those that do not remain are marked
  own : slot.remaining + marked_from m 0 slot.fragments ≡ slot.fragments
  own =
      let f = rules in
      let parts : slot.fragments + (most_pieces - slot.fragments) ≡ most_pieces = omega arith in
      let sum = split m slot.fragments 0 (most_pieces - slot.fragments) in
      let sum' = rw (parts, zero-add slot.fragments) at sum in
      omega arith

  -- ---- complete, and not yet

  pub complete : slot.remaining ≡ 0 → (k : ℕ) → k < slot.fragments → piece_marked m k ≡ true
  complete e k h = full m slot.fragments 0 k (omega (arith, own)) (omega arith) (omega arith) (omega (arith, rules.few))

  pub marked_complete : ((k : ℕ) → k < slot.fragments → piece_marked m k ≡ true) → slot.remaining ≡ 0
  marked_complete f = omega (arith, own, all_alike true m slot.fragments 0 (λ i l h. f i (omega arith)))

  -- ---- what keeps marks and slot together

  -- what remains is at most 64, so that one less of it does not wrap
  pub piece_fit : (k : ℕ) → k < slot.fragments → piece_marked m k ≡ false → block_fit (with_piece m k) (one_less slot) ≡ true
  piece_fit k h new =
      let f = rules in
      let inside : k < most_pieces = omega arith in
      let more = count_with m k inside new in
      let past = count_outside m k inside (most_pieces - slot.fragments) slot.fragments (λ i l g e. omega arith) in
      let left : (slot.remaining ≡ 0 → ⊥) = (λ e. never (sym new ∙ complete e k h)) in
      let less : minus 32 slot.remaining 1 ≡ slot.remaining - 1 = omega (arith, left) in
      fits (with_piece m k) (one_less slot) record {
        few = f.few;
        some = f.some;
        short = f.short;
        count = rw less (omega (arith, left));
        none = past ∙ f.none;
      }
    where
      never : false ≡ true → ⊥
      never e = let z : ◌≡◌ {A = ℕ} 0 1 = cc in omega arith

pub new_fit : (packet byte channel : ℕ) (start : Reliable) (f : Fragment) → fields_fit packet f ≡ true → block_fit no_marks (block_of byte channel start f) ≡ true
new_fit packet byte channel start f fit =
    let r =
    field_rules
    (leb 1 f.count)
    (leb f.count most_pieces)
    (ltb f.number f.count)
    (leb f.total most_bytes)
    (leb f.total packet)
    (ltb f.offset f.total)
    (leb f.length (f.total - f.offset))
    fit in
    let begins : f.offset < f.total = ltb-true f.offset f.total r.2 in
    let nothing : (n k : ℕ) → marked_from no_marks k n ≡ 0 = (λ n k. all_alike false no_marks n k (λ i l h. marked_none i)) in
    fits no_marks (block_of byte channel start f) record {
      few = leb-true _ _ r.0;
      some = omega arith;
      short = leb-true _ _ r.1;
      count = omega (arith, nothing most_pieces 0);
      none = nothing (most_pieces - f.count) f.count;
    }
