-- Written, then read: the groups of a sound record's row, with any bytes behind them, are read as numbers whose table is the record's as far as it is written, and those bytes
-- are left. And cut anywhere, they are not read at all.
-- The argument, from the first place to the last: the entries before a place are the same, so the reader sees the place written exactly where it was; there it finds the number's
-- groups, reads the number, which fits, and puts it where it was. A cut falls inside a number's groups, and those are not read.
use Prim.Native.Nat.{ℕ, zero, suc, ◌+◌, ◌-◌, ◌≤◌, ◌<◌}
use mathlib.Core.Path.{◌≡◌, refl, ap, sym, subst, ◌∙◌}
use mathlib.Core.Bool.{Bool, true, false}
use mathlib.Core.List.{List, [], ◌++◌, map, append_assoc}
use native.Mathlib.Omega.{arith}
use lib.ListN.{length, get_or, take, drop, replicate, length-append, length-map, length-replicate, get_or-map}
use lib.Seq.{ext_get_or, drop-append_seam, take-append-le, take-append-add}
use Rattle.numbers.specs.Pick.{pick}
use Rattle.std.specs.Prelude.{Option, None}
use Rattle.sevens.specs.Groups.{written, read, grouped as read_as}
use Rattle.sevens.specs.declared.Grouped.{Grouped}
use Rattle.sevens.proofs.GroupLaws.{read_back, read_cut}
use Rattle.peer.specs.Damage.{sound}
use Rattle.places.specs.Whole.{whole}
use Rattle.order.specs.Table.{table, row_of, nowhere}
use Rattle.order.specs.declared.Place.{Place}
use Rattle.order.proofs.WholeLaws.{table-length}
use Rattle.order.proofs.EntryLaws.{entry_at, below_or}
use Rattle.order.proofs.Determined.{shape, seen, Named, Before, sound_named, next_seen, next_written}
use Rattle.snapshot_parts.specs.Row.{grouped, fits, put_at, Parsed, parsed, unread, with_number, numbers_from}
use Rattle.snapshot_parts.proofs.RowLaws.{left, left_end, left_step}
use Rattle.snapshot_parts.proofs.PutLaws.{Kinded, kinded_none, kinded_named, kinded_pass, seen_is, put-length, put_before, put_shape, put_number, kinded_put}
use Rattle.snapshot_parts.proofs.FitLaws.{good_fits, good_at}

-- ---- a place by what it is like and its number
place_eq : (e f : Place) → shape e ≡ shape f → e.number ≡ f.number → e ≡ f
place_eq e f q n =
    ap (λ (g : Place). record { number = e.number; bits = g.bits; most = g.most; is_command = g.is_command; is_written = g.is_written }) q
    ∙ ap (λ (k : ℕ). record { number = k; bits = f.bits; most = f.most; is_command = f.is_command; is_written = f.is_written }) n

-- ---- a turn of the reader, by its cases
module _ (n i : ℕ) (vs bs : List ℕ) where
  abbrev here : Place
  here = entry_at vs i

  abbrev next : List ℕ → List ℕ → Parsed
  next us cs = numbers_from n (i + 1) us cs

  turn_pass : here.is_written ≡ false → numbers_from (suc n) i vs bs ≡ next vs bs
  unfolding numbers_from
  turn_pass w = ap (λ (t : Bool). pick t (with_number here i vs bs (read bs) next) (next vs bs)) w

  turn_number : here.is_written ≡ true → (g : Option Grouped) → read bs ≡ g → numbers_from (suc n) i vs bs ≡ with_number here i vs bs g next
  unfolding numbers_from
  turn_number w g r =
      ap (λ (t : Bool). pick t (with_number here i vs bs (read bs) next) (next vs bs)) w ∙ ap (λ (h : Option Grouped). with_number here i vs bs h next) r

  turn_put : here.is_written ≡ true → (x k : ℕ) → read bs ≡ read_as x k → fits here x ≡ true → numbers_from (suc n) i vs bs ≡ next (put_at here i x vs) (drop k bs)
  turn_put w x k r f = turn_number w (read_as x k) r ∙ ap (λ (t : Bool). pick t (next (put_at here i x vs) (drop k bs)) unread) f

  turn_unread : here.is_written ≡ true → read bs ≡ None → numbers_from (suc n) i vs bs ≡ unread
  turn_unread w r = turn_number w None r

-- ---- the groups of a place, and those behind it
module _ (es : List Place) (i : ℕ) (h : i < length es) where
  left_pass : (get_or es i nowhere).is_written ≡ false → left es i ≡ left es (i + 1)
  left_pass w = left_step es i h ∙ ap (λ (t : Bool). pick t (written (get_or es i nowhere).number) [] ++ left es (i + 1)) w

  left_put : (get_or es i nowhere).is_written ≡ true → left es i ≡ written (get_or es i nowhere).number ++ left es (i + 1)
  left_put w = left_step es i h ∙ ap (λ (t : Bool). pick t (written (get_or es i nowhere).number) [] ++ left es (i + 1)) w

-- ---- the reader's numbers vs at place i, along the record ws
record Along (ws vs : List ℕ) (i : ℕ) : Type 0 where
  long : length vs ≡ 1236
  kinded : Kinded vs i
  before : Before ws vs i

-- what it comes to
record Reached (ws rest vs : List ℕ) (n i : ℕ) : Type 0 where
  numbers : List ℕ
  is : numbers_from n i vs (left (table (whole ws)) i ++ rest) ≡ parsed numbers rest
  along : Along ws numbers 1236

-- of the numbers of ws the logic knows no bound of itself: that each has 32 bits is a premise, as every u32 has
module _ (ws : List ℕ) (l : length ws ≡ 1236) (e : sound (whole ws) ≡ true) (small : (k : ℕ) → get_or ws k 0 < 4294967296) where
  abbrev es : List Place
  es = table (whole ws)

  module _ (vs : List ℕ) (i : ℕ) (h : i < 1236) (a : Along ws vs i) where
    alike : shape (seen (entry_at ws i)) ≡ shape (seen (entry_at vs i))
    alike = next_seen ws vs i l a.long h (sound_named ws e i) (kinded_named vs i a.kinded) a.before

    written_same : (entry_at vs i).is_written ≡ (entry_at ws i).is_written
    written_same = sym (next_written ws vs i l a.long h (sound_named ws e i) (kinded_named vs i a.kinded) a.before)

    inside : i < length es
    inside = omega (arith, table-length ws l)

    -- place i is not written
    along_pass : (entry_at ws i).is_written ≡ false → Along ws vs (i + 1)
    along_pass w =
        let v : (entry_at vs i).is_written ≡ false = written_same ∙ w in
        record {
          long = a.long;
          kinded = kinded_pass vs a.long i v a.kinded;
          before = λ k b. below_or k i (a.before k)
              (λ (c : i ≤ k).
              let z : i ≡ k = omega arith in
              subst (λ (j : ℕ). seen (entry_at ws j) ≡ seen (entry_at vs j)) z
              (ap (λ (t : Bool). pick t (entry_at ws i) nowhere) w ∙ sym (ap (λ (t : Bool). pick t (entry_at vs i) nowhere) v)));
        }

    -- place i is written: its number fits, and is put
    module _ (w : (entry_at ws i).is_written ≡ true) where
      abbrev x : ℕ
      x = (entry_at ws i).number

      sees : (entry_at vs i).is_written ≡ true
      sees = written_same ∙ w

      shapes : shape (entry_at ws i) ≡ shape (entry_at vs i)
      shapes = sym (ap shape (seen_is (entry_at ws i) w)) ∙ alike ∙ ap shape (seen_is (entry_at vs i) sees)

      fit_here : fits (entry_at vs i) x ≡ true
      fit_here = sym (ap (λ (p : Place). fits p x) shapes) ∙ good_fits (entry_at ws i) (good_at ws l e small i h) w

      abbrev us : List ℕ
      us = put_at (entry_at vs i) i x vs

      along_put : Along ws us (i + 1)
      along_put =
          record {
            long = put-length vs a.long i h sees x;
            kinded = kinded_put vs a.long i h sees x a.kinded fit_here;
            before = λ k b. below_or k i
                (λ (c : k < i). a.before k c ∙ sym (put_before vs a.long i h sees x k c))
                (λ (c : i ≤ k).
                let z : i ≡ k = omega arith in
                subst (λ (j : ℕ). seen (entry_at ws j) ≡ seen (entry_at us j)) z
                (ap seen
                (place_eq (entry_at ws i) (entry_at us i) (shapes ∙ sym (put_shape vs a.long i h sees x a.kinded))
                (sym (put_number vs a.long i h sees x a.kinded fit_here)))));
          }

      reads : (cs : List ℕ) → read (written x ++ cs) ≡ read_as x (length (written x))
      reads cs = read_back x cs (good_at ws l e small i h).small

      turned : (n : ℕ) (cs : List ℕ) → numbers_from (suc n) i vs (written x ++ cs) ≡ numbers_from n (i + 1) us cs
      turned n cs =
          turn_put n i vs (written x ++ cs) sees x (length (written x)) (reads cs) fit_here
          ∙ ap (numbers_from n (i + 1) us) (drop-append_seam (written x) cs)

  -- ---- all of them
  module _ (rest : List ℕ) where
    reached_end : (vs : List ℕ) → Along ws vs 1236 → Reached ws rest vs 0 1236
    unfolding numbers_from
    reached_end vs a =
        record { numbers = vs; is = ap (λ (bs : List ℕ). parsed vs (bs ++ rest)) (left_end es 1236 (omega (arith, table-length ws l))); along = a }

    module _ (n i : ℕ) (vs : List ℕ) (h : i < 1236) (a : Along ws vs i) (more : (us : List ℕ) → Along ws us (i + 1) → Reached ws rest us n (i + 1)) where
      reached_turn : (t : Bool) → (entry_at ws i).is_written ≡ t → Reached ws rest vs (suc n) i
      reached_turn false w =
          let r = more vs (along_pass vs i h a w) in
          record {
            numbers = r.numbers;
            is =
                turn_pass n i vs (left es i ++ rest) (written_same vs i h a ∙ w)
                ∙ ap (λ (bs : List ℕ). numbers_from n (i + 1) vs (bs ++ rest)) (left_pass es i (inside vs i h a) w)
                ∙ r.is;
            along = r.along;
          }
      reached_turn true w =
          let u = us vs i h a w in
          let g = written (entry_at ws i).number in
          let r = more u (along_put vs i h a w) in
          record {
            numbers = r.numbers;
            is =
                ap (λ (bs : List ℕ). numbers_from (suc n) i vs (bs ++ rest)) (left_put es i (inside vs i h a) w)
                ∙ ap (numbers_from (suc n) i vs) (append_assoc g (left es (i + 1)) rest)
                ∙ turned vs i h a w n (left es (i + 1) ++ rest)
                ∙ r.is;
            along = r.along;
          }

    reached : (n i : ℕ) (vs : List ℕ) → i + n ≡ 1236 → Along ws vs i → Reached ws rest vs n i
    reached zero i vs p a =
        let z : i ≡ 1236 = omega arith in
        subst (λ (k : ℕ). Reached ws rest vs 0 k) (sym z) (reached_end vs (subst (Along ws vs) z a))
    reached (suc n) i vs p a =
        reached_turn n i vs (omega arith) a (λ us b. reached n (i + 1) us (omega arith) b) (entry_at ws i).is_written refl

  -- ---- cut
  module _ (n i : ℕ) (vs : List ℕ) (h : i < 1236) (a : Along ws vs i)
      (more : (us : List ℕ) (m : ℕ) → Along ws us (i + 1) → m < length (left es (i + 1)) → numbers_from n (i + 1) us (take m (left es (i + 1))) ≡ unread) where
    abbrev g : List ℕ
    g = written (entry_at ws i).number

    cut_turn : (t : Bool) → (entry_at ws i).is_written ≡ t → (m : ℕ) → m < length (left es i) → numbers_from (suc n) i vs (take m (left es i)) ≡ unread
    cut_turn false w m b =
        let p = left_pass es i (inside vs i h a) w in
        turn_pass n i vs (take m (left es i)) (written_same vs i h a ∙ w)
        ∙ ap (λ (bs : List ℕ). numbers_from n (i + 1) vs (take m bs)) p
        ∙ more vs m (along_pass vs i h a w) (omega (arith, b, ap length p))
    cut_turn true w m b =
        let p = left_put es i (inside vs i h a) w in
        let q : length (left es i) ≡ length g + length (left es (i + 1)) = ap length p ∙ length-append g (left es (i + 1)) in
        ap (λ (bs : List ℕ). numbers_from (suc n) i vs (take m bs)) p
        ∙ below_or m (length g)
        (λ (c : m < length g).
        ap (numbers_from (suc n) i vs) (take-append-le m g (left es (i + 1)) (omega arith))
        ∙ turn_unread n i vs (take m g) (sees vs i h a w) (read_cut 5 (entry_at ws i).number m c))
        (λ (c : length g ≤ m).
        let z : m ≡ length g + (m - length g) = omega arith in
        ap (λ (k : ℕ). numbers_from (suc n) i vs (take k (g ++ left es (i + 1)))) z
        ∙ ap (numbers_from (suc n) i vs) (take-append-add g (left es (i + 1)) (m - length g))
        ∙ turned vs i h a w n (take (m - length g) (left es (i + 1)))
        ∙ more (us vs i h a w) (m - length g) (along_put vs i h a w) (omega (arith, b, q, c)))

  cut_from : (n i : ℕ) (vs : List ℕ) (m : ℕ) → i + n ≡ 1236 → Along ws vs i → m < length (left es i) → numbers_from n i vs (take m (left es i)) ≡ unread
  cut_from zero i vs m p a b = absurd (omega (arith, b, p, ap length (left_end es i (omega (arith, p, table-length ws l)))))
  cut_from (suc n) i vs m p a b =
      cut_turn n i vs (omega arith) a (λ us k c d. cut_from n (i + 1) us k (omega arith) c d) (entry_at ws i).is_written refl m b

  -- ---- from any numbers of the record's length
  begun : (zs : List ℕ) → length zs ≡ 1236 → Along ws zs 0
  begun zs m = record { long = m; kinded = kinded_none zs; before = λ k b. absurd (omega arith) }

  same_seen : (vs : List ℕ) → Along ws vs 1236 → map seen (table (whole vs)) ≡ map seen es
  same_seen vs a =
      let m : length (map seen (table (whole vs))) ≡ 1236 = length-map (table (whole vs)) seen ∙ table-length vs a.long in
      let n : length (map seen es) ≡ 1236 = length-map es seen ∙ table-length ws l in
      ext_get_or nowhere (map seen (table (whole vs))) (map seen es) (m ∙ sym n)
      (λ (k : ℕ) (b : k < length (map seen (table (whole vs)))).
      get_or-map seen (table (whole vs)) k nowhere ∙ sym (a.before k (omega (arith, b, m))) ∙ sym (get_or-map seen es k nowhere))

-- ---- what is read of a record's groups, with rest behind them
pub record BackOver (zs ws rest : List ℕ) : Type 0 where
  pub numbers : List ℕ
  pub is : numbers_from 1236 0 zs (grouped (row_of (whole ws)) ++ rest) ≡ parsed numbers rest
  pub long : length numbers ≡ 1236
  pub same : map seen (table (whole numbers)) ≡ map seen (table (whole ws))
  pub named : Named numbers 1236

abbrev pub Back : List ℕ → List ℕ → Type 0
Back ws rest = BackOver (replicate 1236 0) ws rest

module _ (ws : List ℕ) (l : length ws ≡ 1236) (e : sound (whole ws) ≡ true) (small : (k : ℕ) → get_or ws k 0 < 4294967296) where
  pub written_read_over : (zs rest : List ℕ) → length zs ≡ 1236 → BackOver zs ws rest
  written_read_over zs rest m =
      let r = reached ws l e small rest 1236 0 zs refl (begun ws l e small zs m) in
      record { numbers = r.numbers; is = r.is; long = r.along.long; same = same_seen ws l e small r.numbers r.along; named = kinded_named r.numbers 1236 r.along.kinded }

  pub written_read : (rest : List ℕ) → Back ws rest
  written_read rest = written_read_over (replicate 1236 0) rest (length-replicate {A = ℕ} 1236 0)

  -- cut anywhere, nothing is read
  pub cut_unread_over : (zs : List ℕ) (m : ℕ) → length zs ≡ 1236 → m < length (grouped (row_of (whole ws))) → numbers_from 1236 0 zs (take m (grouped (row_of (whole ws)))) ≡ unread
  cut_unread_over zs m k b = cut_from ws l e small 1236 0 zs m refl (begun ws l e small zs k) b

  pub cut_unread : (m : ℕ) → m < length (grouped (row_of (whole ws))) → numbers_from 1236 0 (replicate 1236 0) (take m (grouped (row_of (whole ws)))) ≡ unread
  cut_unread m b = cut_unread_over (replicate 1236 0) m (length-replicate {A = ℕ} 1236 0) b
