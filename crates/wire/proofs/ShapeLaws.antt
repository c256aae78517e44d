-- A command built from a row that fits has the row's first numbers: cutting a number to its width leaves one that fits as it is.
-- The argument: each kind's fields are the row cut to the layout, by computing, and the cut changes nothing, by induction on the widths.
use mathlib.Core.Path.{◌≡◌, refl, ap, ◌∙◌, sym}
use mathlib.Core.Bool.{Bool, true, false}
use mathlib.Core.List.{List, [], ◌∷◌}
use Prim.Native.Nat.{ℕ, zero, suc, ◌+◌, ◌%◌, ◌^◌, ◌≤◌, ◌<◌}
use native.Mathlib.Numerals.{add-one}
use native.Mathlib.Omega.{arith}
use lib.Dec.{eqb, ltb}
use lib.ListN.{length, get_or, take, drop}
use lib.Seq.{drop-cons}
use borrow.Author.Tests.{eqb-true, ltb-true}
use Rattle.numbers.specs.Pick.{pick, both}
use Rattle.numbers.specs.Answers.{done, refused}
use Rattle.numbers.specs.declared.refusals.Refusal.TheVariants.{BadCommand}
use Rattle.command.specs.Layout.{known, layout}
use Rattle.command.specs.Rows.{kind_of, fields_row}
use Rattle.command.specs.Bytes.{fits}
use Rattle.wire.specs.Built.{built_from}
use Rattle.command.specs.Shapes.{shaped, shaped_by, connect_by, fragment_by}
use Rattle.numbers.proofs.BoolLaws.{both_left, both_right}
use Rattle.command.proofs.LayoutLaws.{known_low, known_high, layout-length}

abbrev pub cut : ℕ → ℕ → ℕ
cut w x = pick (eqb w 1) (x % 256) (pick (eqb w 2) (x % 65536) x)

cut_fit : (w x : ℕ) → x < 256 ^ w → cut w x ≡ x
cut_fit w x h = go (eqb w 1) refl
  where
    two : (b : Bool) → eqb w 2 ≡ b → pick b (x % 65536) x ≡ x
    two true e = let l : x < 256 ^ 2 = rw (eqb-true w 2 e) at h in omega arith
    two false e = refl

    go : (b : Bool) → eqb w 1 ≡ b → pick b (x % 256) (pick (eqb w 2) (x % 65536) x) ≡ x
    go true e = let l : x < 256 ^ 1 = rw (eqb-true w 1 e) at h in omega arith
    go false e = two (eqb w 2) refl

-- the numbers of the row from i on, each cut to its width
abbrev pub cuts : List ℕ → List ℕ → ℕ → List ℕ
cuts [] xs i = []
cuts (w ∷ ws) xs i = cut w (get_or xs i 0) ∷ cuts ws xs (i + 1)

cuts_fit : (ws xs : List ℕ) (i : ℕ) → i + length ws ≤ length xs → fits ws (drop i xs) ≡ true → cuts ws xs i ≡ take (length ws) (drop i xs)
unfolding fits
cuts_fit [] xs i h f = refl
cuts_fit (w ∷ ws) xs i h f =
    let x = get_or xs i 0 in
    let d : drop i xs ≡ x ∷ drop (i + 1) xs = rw add-one (drop-cons xs i 0 (omega arith)) in
    let g : both (ltb x (256 ^ w)) (fits ws (drop (i + 1) xs)) ≡ true = rw d at f in
    let e : cut w x ≡ x = cut_fit w x (ltb-true x (256 ^ w) (both_left (ltb x (256 ^ w)) (fits ws (drop (i + 1) xs)) g)) in
    let r : cuts ws xs (i + 1) ≡ take (length ws) (drop (i + 1) xs) =
    cuts_fit ws xs (i + 1) (omega arith) (both_right (ltb x (256 ^ w)) (fits ws (drop (i + 1) xs)) g)
    in
    rw (d, e, r)

-- the kind, then the numbers of the shaped command
abbrev pub shaped_row : ℕ → List ℕ → List ℕ
shaped_row k xs =
    kind_of (shaped k xs) ∷ get_or xs 0 0 % 256 ∷ get_or xs 1 0 % 256 ∷ get_or xs 2 0 % 65536 ∷ fields_row (shaped k xs)

pub shaped_row_lem : (k : ℕ) (xs : List ℕ) → 1 ≤ k → k ≤ 12 → shaped_row k xs ≡ k ∷ cuts (layout k) xs 0
unfolding layout shaped_by connect_by fragment_by
shaped_row_lem zero xs l h = absurd (omega arith)
shaped_row_lem (suc zero) xs l h = refl
shaped_row_lem (suc (suc zero)) xs l h = refl
shaped_row_lem (suc (suc (suc zero))) xs l h = refl
shaped_row_lem (suc (suc (suc (suc zero)))) xs l h = refl
shaped_row_lem (suc (suc (suc (suc (suc zero))))) xs l h = refl
shaped_row_lem (suc (suc (suc (suc (suc (suc zero)))))) xs l h = refl
shaped_row_lem (suc (suc (suc (suc (suc (suc (suc zero))))))) xs l h = refl
shaped_row_lem (suc (suc (suc (suc (suc (suc (suc (suc zero)))))))) xs l h = refl
shaped_row_lem (suc (suc (suc (suc (suc (suc (suc (suc (suc zero))))))))) xs l h = refl
shaped_row_lem (suc (suc (suc (suc (suc (suc (suc (suc (suc (suc zero)))))))))) xs l h = refl
shaped_row_lem (suc (suc (suc (suc (suc (suc (suc (suc (suc (suc (suc zero))))))))))) xs l h = refl
shaped_row_lem (suc (suc (suc (suc (suc (suc (suc (suc (suc (suc (suc (suc zero)))))))))))) xs l h = refl
shaped_row_lem (suc (suc (suc (suc (suc (suc (suc (suc (suc (suc (suc (suc (suc k))))))))))))) xs l h = absurd (omega arith)

pub built_fit :
    (k : ℕ) (xs : List ℕ) → length xs ≡ 16 → both (known k) (fits (layout k) xs) ≡ true → done (shaped_row k xs) ≡ built_from k xs
built_fit k xs n t =
    let kn : known k ≡ true = both_left (known k) (fits (layout k) xs) t in
    let f : fits (layout k) (drop 0 xs) ≡ true = both_right (known k) (fits (layout k) xs) t in
    let p : cuts (layout k) xs 0 ≡ take (length (layout k)) xs = cuts_fit (layout k) xs 0 (omega (arith, layout-length k)) f in
    let q : shaped_row k xs ≡ k ∷ cuts (layout k) xs 0 = shaped_row_lem k xs (known_low k kn) (known_high k kn) in
    ap done (q ∙ ap (λ (l : List ℕ). k ∷ l) p)
    ∙ ap (λ (b : Bool). pick b (done (k ∷ take (length (layout k)) xs)) (refused BadCommand)) (sym t)

pub built_none : (k : ℕ) (xs : List ℕ) → both (known k) (fits (layout k) xs) ≡ false → refused BadCommand ≡ built_from k xs
built_none k xs t = ap (λ (b : Bool). pick b (done (k ∷ take (length (layout k)) xs)) (refused BadCommand)) (sym t)
