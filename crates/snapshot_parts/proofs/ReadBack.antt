-- Read, then written: bytes that were read as numbers begin with the groups of the record's row, as the record of these numbers has it, and what was left is behind them.
-- The argument, from the last place to the first: the numbers read agree with those that stood before a place, so the entry at the place is the one that the reader had when it
-- had put its number there; that one is written as the reader saw it, and has the number read, whose groups are the bytes it was read of, for a number has one form.
use Prim.Native.Nat.{ℕ, zero, suc, ◌+◌, ◌*◌, ◌<◌}
use mathlib.Core.Path.{◌≡◌, refl, ap, sym, subst, ◌∙◌}
use mathlib.Core.Bool.{Bool, true, false}
use mathlib.Core.List.{List, [], ◌++◌, append_assoc}
use native.Mathlib.Omega.{arith}
use lib.ListN.{length, get_or, drop, replicate, take-append-drop, length-replicate}
use lib.Seq.{get_or-drop}
use Rattle.numbers.specs.Pick.{pick}
use Rattle.std.specs.Prelude.{Option, Some, None}
use Rattle.sevens.specs.Groups.{written, read, grouped as read_as}
use Rattle.sevens.specs.Form.{Form}
use Rattle.sevens.specs.declared.Grouped.{Grouped}
use Rattle.sevens.proofs.GroupLaws.{written_read}
use Rattle.places.specs.Whole.{whole}
use Rattle.order.specs.Table.{table, row_of}
use Rattle.order.specs.declared.Place.{Place}
use Rattle.order.proofs.WholeLaws.{table-length}
use Rattle.order.proofs.EntryLaws.{entry_at}
use Rattle.order.proofs.Agreement.{Agrees, Kinds, entry_agrees}
use Rattle.snapshot_parts.specs.Row.{grouped, fits, put_at, Parsed, parsed, unread, with_number, numbers_from}
use Rattle.snapshot_parts.specs.CodeRow.{part_of}
use Rattle.snapshot_parts.proofs.RowLaws.{left, left_end, left_step}
use Rattle.snapshot_parts.proofs.PutLaws.{Kinded, kinded_none, kinded_pass, put-length, put_agrees, put_kinds, put_written, put_number, kinded_put}

abbrev pub Bytes : List ℕ → Type 0
Bytes bs = (j : ℕ) → get_or bs j 0 < 256

-- what was read, or nothing
numbers_of : Parsed → List ℕ
numbers_of (parsed ws rest) = ws
numbers_of unread = []

rest_of : Parsed → List ℕ
rest_of (parsed ws rest) = rest
rest_of unread = []

-- the groups of a place by whether it is written
part_of_lem : (e : Place) (x : ℕ) → e.is_written ≡ true → e.number ≡ x → part_of e ≡ written x
part_of_lem e x w n = ap (λ (t : Bool). pick t (written e.number) []) w ∙ ap written n

part_none : (e : Place) → e.is_written ≡ false → part_of e ≡ []
part_none e w = ap (λ (t : Bool). pick t (written e.number) []) w

-- the numbers ws, which were read from place i on with vs before it, of the bytes bs
record Told (ws rest vs bs : List ℕ) (i : ℕ) : Type 0 where
  long : length ws ≡ 1236
  agrees : Agrees ws vs i
  kinds : Kinds ws vs i
  is : bs ≡ left (table (whole ws)) i ++ rest

module _ (ws rest : List ℕ) where
  told_end : (vs bs : List ℕ) → length vs ≡ 1236 → parsed vs bs ≡ parsed ws rest → Told ws rest vs bs 1236
  unfolding numbers_of rest_of
  told_end vs bs l q =
      let v : vs ≡ ws = ap numbers_of q in
      let m : length ws ≡ 1236 = sym (ap length v) ∙ l in
      record {
        long = m;
        agrees = λ k h. ap (λ (us : List ℕ). get_or us k 0) (sym v);
        kinds = λ s a h. ap (λ (us : List ℕ). get_or us (330 + s * 26 + 25) 0) (sym v);
        is = ap rest_of q ∙ ap (λ (es : List ℕ). es ++ rest) (sym (left_end (table (whole ws)) 1236 (omega (arith, table-length ws m))));
      }

  -- the place before, by the entry that it has then
  told_step : (vs us bs cs : List ℕ) (i : ℕ) → i < 1236 → length us ≡ 1236 → Told ws rest us cs (i + 1) → Agrees us vs i → Kinds us vs i
      → bs ≡ part_of (entry_at us i) ++ cs → Told ws rest vs bs i
  told_step vs us bs cs i h l t a k b =
      let es = table (whole ws) in
      let e : entry_at ws i ≡ entry_at us i =
      entry_agrees ws us t.long l i h (λ (j : ℕ) (q : j < suc i). t.agrees j (omega arith)) (λ (s : ℕ) (c : s < 32) (q : 330 + s * 26 + 9 < suc i). t.kinds s c (omega arith))
      in
      record {
        long = t.long;
        agrees = λ j q. t.agrees j (omega arith) ∙ a j q;
        kinds = λ s c q. t.kinds s c (omega arith) ∙ k s c q;
        is =
            b
            ∙ ap (λ (r : List ℕ). part_of (entry_at us i) ++ r) t.is
            ∙ sym (append_assoc (part_of (entry_at us i)) (left es (i + 1)) rest)
            ∙ ap (λ (p : Place). (part_of p ++ left es (i + 1)) ++ rest) (sym e)
            ∙ ap (λ (r : List ℕ). r ++ rest) (sym (left_step es i (omega (arith, table-length ws t.long))));
      }

  -- one place, from what is told of the rest
  module _ (n i : ℕ) (vs bs : List ℕ) (h : i < 1236) (l : length vs ≡ 1236) (k : Kinded vs i) (all : Bytes bs)
      (more : (us cs : List ℕ) → length us ≡ 1236 → Kinded us (i + 1) → Bytes cs → numbers_from n (i + 1) us cs ≡ parsed ws rest → Told ws rest us cs (i + 1)) where
    abbrev e : Place
    e = entry_at vs i

    abbrev next : List ℕ → List ℕ → Parsed
    next us cs = numbers_from n (i + 1) us cs

    told_pass : e.is_written ≡ false → next vs bs ≡ parsed ws rest → Told ws rest vs bs i
    told_pass w r =
        told_step vs vs bs bs i h l (more vs bs l (kinded_pass vs l i w k) all r) (λ j b. refl) (λ s a b. refl)
        (ap (λ (g : List ℕ). g ++ bs) (sym (part_none e w)))

    module _ (w : e.is_written ≡ true) where
      told_put : (x j : ℕ) → read bs ≡ read_as x j → fits e x ≡ true → next (put_at e i x vs) (drop j bs) ≡ parsed ws rest → Told ws rest vs bs i
      told_put x j is f r =
          let form : Form 5 bs x j = written_read 5 bs x j all is in
          let us = put_at e i x vs in
          told_step vs us bs (drop j bs) i h (put-length vs l i h w x)
          (more us (drop j bs) (put-length vs l i h w x) (kinded_put vs l i h w x k f) (λ m. subst (λ (b : ℕ). b < 256) (sym (get_or-drop j bs m 0)) (all (j + m))) r)
          (put_agrees vs l i h w x)
          (put_kinds vs l i h w x)
          (sym (take-append-drop j bs)
          ∙ ap (λ (g : List ℕ). g ++ drop j bs) (form.begins ∙ sym (part_of_lem (entry_at us i) x (put_written vs l i h w x k) (put_number vs l i h w x k f))))

      told_fit : (x j : ℕ) → read bs ≡ read_as x j → (t : Bool) → fits e x ≡ t → pick t (next (put_at e i x vs) (drop j bs)) unread ≡ parsed ws rest → Told ws rest vs bs i
      told_fit x j is true f r = told_put x j is f r
      told_fit x j is false f r = absurd (let u : ◌≡◌ {A = ℕ} 0 1 = cc in omega arith)

      told_number : (g : Option Grouped) → read bs ≡ g → with_number e i vs bs g next ≡ parsed ws rest → Told ws rest vs bs i
      told_number (Some g) is r = told_fit g.value g.groups is (fits e g.value) refl r
      told_number None is r = absurd (let u : ◌≡◌ {A = ℕ} 0 1 = cc in omega arith)

    told_turn : (t : Bool) → e.is_written ≡ t → pick t (with_number e i vs bs (read bs) next) (next vs bs) ≡ parsed ws rest → Told ws rest vs bs i
    told_turn true w r = told_number w (read bs) refl r
    told_turn false w r = told_pass w r

  told : (n i : ℕ) (vs bs : List ℕ) → i + n ≡ 1236 → length vs ≡ 1236 → Kinded vs i → Bytes bs → numbers_from n i vs bs ≡ parsed ws rest → Told ws rest vs bs i
  unfolding numbers_from
  told zero i vs bs p l k all q =
      let e : 1236 ≡ i = omega arith in
      subst (Told ws rest vs bs) e (told_end vs bs l q)
  told (suc n) i vs bs p l k all q =
      told_turn n i vs bs (omega arith) l k all (λ us cs m g b r. told n (i + 1) us cs (omega arith) m g b r) (entry_at vs i).is_written refl q

-- what the numbers were before is all the same, for each that counts is read
pub record ReadBack (bs ws rest : List ℕ) : Type 0 where
  pub long : length ws ≡ 1236
  pub is : bs ≡ grouped (row_of (whole ws)) ++ rest

pub read_written_over : (zs bs ws rest : List ℕ) → length zs ≡ 1236 → Bytes bs → numbers_from 1236 0 zs bs ≡ parsed ws rest → ReadBack bs ws rest
read_written_over zs bs ws rest l all q =
    let t = told ws rest 1236 0 zs bs refl l (kinded_none zs) all q in
    record { long = t.long; is = t.is }

pub read_written : (bs ws rest : List ℕ) → Bytes bs → numbers_from 1236 0 (replicate 1236 0) bs ≡ parsed ws rest → ReadBack bs ws rest
read_written bs ws rest all q = read_written_over (replicate 1236 0) bs ws rest (length-replicate {A = ℕ} 1236 0) all q
