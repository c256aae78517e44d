-- The two round trips: what was written is read, and what was read is written, into any buffer. A write changes no byte outside its place.
-- A command has one encoding.
-- The argument: induction on the widths, with a number's own round trip at each; then the answers, which tell the results apart.
use mathlib.Core.Path.{◌≡◌, refl, ap, subst, ◌∙◌, sym}
use mathlib.Core.Bool.{Bool, true, false}
use mathlib.Core.List.{List, [], ◌∷◌, ◌++◌}
use Prim.Native.Nat.{ℕ, ◌+◌, ◌%◌, ◌^◌, ◌≤◌, ◌<◌}
use native.Mathlib.Omega.{arith}
use lib.Dec.{ltb, leb}
use lib.ListN.{length, get_or, take, drop, length-drop}
use lib.Seq.{sets, sets-eq, take-add, take-append_seam, take-length, drop-drop, length-take-le}
use borrow.Author.Tests.{ltb-true, leb-true, le-leb, lt-leb, eq-eqb}
use Rattle.numbers.specs.Pick.{pick, both}
use Rattle.numbers.specs.Answers.{Answer, done, refused, numbers_of}
use Rattle.numbers.proofs.Settled.{done_apart}
use Rattle.numbers.specs.declared.refusals.Refusal.TheVariants.{BadCommand}
use Rattle.command.specs.Layout.{known, layout, total, size_of}
use Rattle.command.specs.Bytes.{number_at, put_number, row_at, put_row, fits, Bytes}
use Rattle.command.specs.Rows.{kind_of, row_of, names_fields}
use Rattle.wire.specs.Reading.{kind_at, readable, read_at, answer_of}
use Rattle.wire.specs.Writing.{writable, write_bytes, Written}
use Rattle.wire.specs.RoundTrip.{Fitting, WriteThenRead, ReadThenWrite}
use Rattle.command.specs.declared.fields.Command.{Command}
use Rattle.command.specs.declared.fields.Fields.{Fields}
use Rattle.command.specs.declared.fields.Fields.TheVariants as vr
use Rattle.std.specs.Prelude.{Option, Some, None}
use Rattle.numbers.proofs.BoolLaws.{both_left, both_right, both_true, both_false}
use Rattle.command.proofs.ByteLaws.{put-length, put_below, put_above, number_same, number_put, put_read, sets_append}
use Rattle.command.proofs.LayoutLaws.{named, layout-known}
use Rattle.command.proofs.Settled.{apart}
use Rattle.wire.proofs.ReadLaws.{chosen, whole_room}
use Rattle.command.proofs.RowLengths.{row_of-length}
use Rattle.wire.proofs.WriteLaws.{answered, bytes_are, named_kind}
use Rattle.wire.proofs.Settled.{found, readings_apart, writings_apart}

-- ---- a row in bytes
pub row_put_length : (s ws xs : List ℕ) (i : ℕ) → length (put_row s i ws xs) ≡ length s
unfolding put_row
row_put_length s [] xs i = refl
row_put_length s (w ∷ ws) [] i = refl
row_put_length s (w ∷ ws) (x ∷ xs) i = row_put_length (put_number s i w x) ws xs (i + w) ∙ put-length s i w x

pub row_below : (s ws xs : List ℕ) (i j : ℕ) → j < i → get_or (put_row s i ws xs) j 0 ≡ get_or s j 0
unfolding put_row
row_below s [] xs i j h = refl
row_below s (w ∷ ws) [] i j h = refl
row_below s (w ∷ ws) (x ∷ xs) i j h = row_below (put_number s i w x) ws xs (i + w) j (omega arith) ∙ put_below s i w x j h

pub row_above : (s ws xs : List ℕ) (i j : ℕ) → i + total ws ≤ j → get_or (put_row s i ws xs) j 0 ≡ get_or s j 0
unfolding put_row total
row_above s [] xs i j h = refl
row_above s (w ∷ ws) [] i j h = refl
row_above s (w ∷ ws) (x ∷ xs) i j h =
    row_above (put_number s i w x) ws xs (i + w) j (omega arith) ∙ put_above s i w x j (omega arith)

-- what is put is read
pub row_put :
    (s ws xs : List ℕ) (i : ℕ) → fits ws xs ≡ true → i + total ws ≤ length s → row_at (put_row s i ws xs) i ws ≡ take (length ws) xs
unfolding put_row row_at fits total
row_put s [] xs i f h = refl
row_put s (w ∷ ws) [] i f h = cc
row_put s (w ∷ ws) (x ∷ xs) i f h =
    let t = put_number s i w x in
    let l : x < 256 ^ w = ltb-true x (256 ^ w) (both_left (ltb x (256 ^ w)) (fits ws xs) f) in
    let n : number_at (put_row t (i + w) ws xs) i w ≡ x =
    number_same (put_row t (i + w) ws xs) t i w (λ j k. row_below t ws xs (i + w) j k) ∙ number_put s i w x l (omega arith)
    in
    let r : row_at (put_row t (i + w) ws xs) (i + w) ws ≡ take (length ws) xs =
    row_put t ws xs (i + w) (both_right (ltb x (256 ^ w)) (fits ws xs) f) (omega (arith, put-length s i w x))
    in
    rw (n, r)

-- what is read of bytes is put as those bytes, wherever
pub row_copy : (s t ws : List ℕ) (i j : ℕ) → Bytes s → i + total ws ≤ length s → put_row t j ws (row_at s i ws) ≡ sets t j (take (total ws) (drop i s))
unfolding put_row row_at total
row_copy s t [] i j b h = refl
row_copy s t (w ∷ ws) i j b h =
    let l : w ≤ length (drop i s) = rw (length-drop i s) (omega arith) in
    let v : length (take w (drop i s)) ≡ w = length-take-le w (drop i s) l in
    rw (
      put_read s t i j w b (omega arith),
      row_copy s (sets t j (take w (drop i s))) ws (i + w) (j + w) b (omega arith),
      take-add w (total ws) (drop i s),
      sets_append (take w (drop i s)) (take (total ws) (drop w (drop i s))) t j,
      v,
      drop-drop w i s,
    )

-- ---- commands
kind_known : (f : Fields) → known (kind_of f) ≡ true
kind_known (vr.Acknowledge n t) = refl
kind_known (vr.Connect c d) = refl
kind_known (vr.VerifyConnect c) = refl
kind_known (vr.Disconnect d) = refl
kind_known vr.Ping = refl
kind_known (vr.SendReliable l) = refl
kind_known (vr.SendUnreliable n l) = refl
kind_known (vr.SendFragment n g) = refl
kind_known (vr.SendUnsequenced g l) = refl
kind_known (vr.BandwidthLimit i o) = refl
kind_known (vr.ThrottleConfigure i a d) = refl
kind_known (vr.SendUnreliableFragment n g) = refl

-- the first number of a known layout is the first byte
first : (t : List ℕ) (i k : ℕ) → known k ≡ true → get_or (row_at t i (layout k)) 0 0 ≡ get_or t i 0
unfolding row_at number_at
first t i k e =
    let z : i + 0 ≡ i = omega arith in
    let g : get_or t (i + 0) 0 ≡ get_or t i 0 = ap (λ (n : ℕ). get_or t n 0) z in
    let h : get_or (row_at t i (named k)) 0 0 ≡ get_or t i 0 = omega arith in
    ap (λ (ws : List ℕ). get_or (row_at t i ws) 0 0) (layout-known k e) ∙ h

-- the bytes of a command
abbrev span : Command → ℕ
span c = size_of (kind_of c.fields)

module _ (s : List ℕ) (i : ℕ) (c : Command) where
  abbrev kind : ℕ
  kind = kind_of c.fields

  write_read : Fitting c → writable s i c ≡ true → read_at (write_bytes s i c) i ≡ done ((i + size_of kind) ∷ kind ∷ row_of c)
  write_read f w =
      let named = both_left (names_fields c) (leb (i + size_of kind) (length s)) w in
      let room = leb-true (i + size_of kind) (length s) (both_right (names_fields c) (leb (i + size_of kind) (length s)) w) in
      let t = put_row s i (layout kind) (row_of c) in
      let kn = kind_known c.fields in
      let row : row_at t i (layout kind) ≡ row_of c =
      row_put s (layout kind) (row_of c) i f room ∙ ap (λ (n : ℕ). take n (row_of c)) (row_of-length c) ∙ take-length (row_of c)
      in
      let byte : get_or t i 0 ≡ c.byte = sym (first t i kind kn) ∙ ap (λ (l : List ℕ). get_or l 0 0) row in
      let k : kind_at t i ≡ kind = ap (λ (x : ℕ). x % 16) byte ∙ named_kind s i c named in
      let r : both (known kind) (leb (i + size_of kind) (length t)) ≡ true =
      both_true (known kind) (leb (i + size_of kind) (length t)) kn
      (le-leb (i + size_of kind) (length t) (omega (arith, row_put_length s (layout kind) (row_of c) i)))
      in
      ap (λ (l : List ℕ). read_at l i) (bytes_are s i c true w)
      ∙ ap
      (λ (x : ℕ).
      pick (both (known x) (leb (i + size_of x) (length t))) (done ((i + size_of x) ∷ x ∷ row_at t i (layout x))) (refused BadCommand)) k
      ∙ ap (λ (b : Bool). pick b (done ((i + size_of kind) ∷ kind ∷ row_at t i (layout kind))) (refused BadCommand)) r
      ∙ ap (λ (l : List ℕ). done ((i + size_of kind) ∷ kind ∷ l)) row

  -- a write changes no other byte
  module _ (r : Option ℕ) (after : List ℕ) (w : Written s i c r after) where
    either : (P : List ℕ → Type 0) → P s → P (put_row s i (layout kind) (row_of c)) → P after
    either P hs hp = subst P (sym w.buffer) (go (writable s i c))
      where
        go : (b : Bool) → P (pick b (put_row s i (layout kind) (row_of c)) s)
        go true = hp
        go false = hs

    pub written_length : length after ≡ length s
    written_length = either (λ (l : List ℕ). length l ≡ length s) refl (row_put_length s (layout kind) (row_of c) i)

    pub written_below : (j : ℕ) → j < i → get_or after j 0 ≡ get_or s j 0
    written_below j h = either (λ (l : List ℕ). get_or l j 0 ≡ get_or s j 0) refl (row_below s (layout kind) (row_of c) i j h)

    pub written_above : (j : ℕ) → i + size_of kind ≤ j → get_or after j 0 ≡ get_or s j 0
    written_above j h = either (λ (l : List ℕ). get_or l j 0 ≡ get_or s j 0) refl (row_above s (layout kind) (row_of c) i j h)

pub write_then_read : WriteThenRead
write_then_read s after i next c r f w q = readings_apart r (Some (found c next)) (q ∙ go (writable s i c) refl)
  where
    go : (b : Bool) → writable s i c ≡ b → read_at after i ≡ done (next ∷ kind_of c.fields ∷ row_of c)
    go true e =
        let n : next ≡ i + span c = ap (λ (a : Answer). get_or (numbers_of a) 0 0) (w.answer ∙ answered s i c true e) in
        ap (λ (l : List ℕ). read_at l i) w.buffer ∙ write_read s i c f e ∙ ap (λ (m : ℕ). done (m ∷ kind_of c.fields ∷ row_of c)) (sym n)
    go false e = absurd (apart _ _ (w.answer ∙ answered s i c false e) refl refl)

-- what a read found: the bytes it stands on, whole
module _ (s : List ℕ) (i next : ℕ) (c : Command) (e : answer_of (Some (found c next)) ≡ read_at s i) where
  found_readable : readable s i ≡ true
  found_readable = go (readable s i) refl
    where
      go : (b : Bool) → readable s i ≡ b → b ≡ true
      go true t = refl
      go false t = absurd (apart _ _ (e ∙ chosen s i false t) refl refl)

  values : (next ∷ kind_of c.fields ∷ row_of c) ≡ ((i + size_of (kind_at s i)) ∷ kind_at s i ∷ row_at s i (layout (kind_at s i)))
  values = done_apart _ _ (e ∙ chosen s i true found_readable)

  kinds : kind_of c.fields ≡ kind_at s i
  kinds = ap (λ (l : List ℕ). get_or l 1 0) values

  found_next : next ≡ i + span c
  found_next = ap (λ (l : List ℕ). get_or l 0 0) values ∙ ap (λ (k : ℕ). i + size_of k) (sym kinds)

  found_room : i + span c ≤ length s
  found_room = rw kinds (whole_room s i found_readable)

  found_wide : length (take (span c) (drop i s)) ≡ span c
  found_wide = length-take-le (span c) (drop i s) (rw (length-drop i s) (omega (arith, found_room)))

  rows : row_of c ≡ row_at s i (layout (kind_of c.fields))
  rows = ap (λ (l : List ℕ). drop 2 l) values ∙ ap (λ (k : ℕ). row_at s i (layout k)) (sym kinds)

  found_named : names_fields c ≡ true
  found_named =
      let byte : c.byte ≡ get_or s i 0 = ap (λ (l : List ℕ). get_or l 0 0) rows ∙ first s i (kind_of c.fields) (kind_known c.fields) in
      eq-eqb (c.byte % 16) (kind_of c.fields) (ap (λ (x : ℕ). x % 16) byte ∙ sym kinds)

  -- put anywhere, its row is those bytes
  found_copy : (t : List ℕ) (j : ℕ) → Bytes s → put_row t j (layout (kind_of c.fields)) (row_of c) ≡ sets t j (take (span c) (drop i s))
  found_copy t j b = ap (put_row t j (layout (kind_of c.fields))) rows ∙ row_copy s t (layout (kind_of c.fields)) i j b found_room

pub read_then_write : ReadThenWrite
read_then_write s t after i j size c r b e w = record { room = there; short = none }
  where
    same : size ≡ span c
    same = omega (arith, found_next s i (i + size) c e)

    wide : length (take (span c) (drop i s)) ≡ span c
    wide = found_wide s i (i + size) c e

    there : j + size ≤ length t → (r ≡ Some (j + size)) × (after ≡ take j t ++ take size (drop i s) ++ drop (j + size) t)
    there h =
        let k : j + span c ≤ length t = omega (arith, same) in
        let ok : writable t j c ≡ true = both_true (names_fields c) (leb (j + span c) (length t)) (found_named s i (i + size) c e) (le-leb _ _ k) in
        let put : sets t j (take (span c) (drop i s)) ≡ take j t ++ take (span c) (drop i s) ++ drop (j + span c) t =
        rw wide at (sets-eq (take (span c) (drop i s)) t j (omega (arith, wide)))
        in (
          writings_apart r (Some (j + size)) (w.answer ∙ answered t j c true ok ∙ rw same),
          rw same (w.buffer ∙ bytes_are t j c true ok ∙ found_copy s i (i + size) c e t j b ∙ put),
        )

    none : length t < j + size → (r ≡ None) × (after ≡ t)
    none h =
        let no : writable t j c ≡ false =
        both_false (names_fields c) (leb (j + span c) (length t)) (lt-leb (j + span c) (length t) (omega (arith, same)))
        in
        (writings_apart r None (w.answer ∙ answered t j c false no), w.buffer ∙ bytes_are t j c false no)

-- a command has one encoding: wherever it is found, the bytes are the same
pub one_encoding :
    (s t : List ℕ) (i j m n : ℕ) (c : Command) → Bytes s → Bytes t → answer_of (Some (found c m)) ≡ read_at s i → answer_of (Some (found c n)) ≡ read_at t j
    → take (span c) (drop i s) ≡ take (span c) (drop j t)
one_encoding s t i j m n c bs bt e f =
    sym (laid a refl)
    ∙ ap (λ (l : List ℕ). take (length a) l) (sym (found_copy s i m c e a 0 bs) ∙ found_copy t j n c f a 0 bt)
    ∙ ap (λ (k : ℕ). take k (sets a 0 b)) (sym wide)
    ∙ laid b wide
  where
    a : List ℕ
    a = take (span c) (drop i s)

    b : List ℕ
    b = take (span c) (drop j t)

    wide : length b ≡ length a
    wide = found_wide t j n c f ∙ sym (found_wide s i m c e)

    laid : (v : List ℕ) → length v ≡ length a → take (length v) (sets a 0 v) ≡ v
    laid v h = ap (λ (l : List ℕ). take (length v) l) (sets-eq v a 0 (omega (arith, h))) ∙ take-append_seam v (drop (0 + length v) a)
