-- C-12: the snapshot of a sound record, cut anywhere or with anything behind it, is not read: "bytes short or left over".
-- The argument: a cut in the edition or in a number ends inside its groups, which are then not read; a cut in the stored bytes, or bytes behind them, leave too few or too many behind
-- the numbers, and how many there must be the numbers say.
use Prim.Native.Nat.{ℕ, ◌+◌, ◌-◌, ◌≤◌, ◌<◌}
use mathlib.Core.Path.{◌≡◌, refl, ap, ◌∙◌}
use mathlib.Core.Bool.{Bool, true}
use mathlib.Core.List.{List, [], ◌∷◌, ◌++◌, append_assoc}
use native.Mathlib.Omega.{arith}
use lib.ListN.{length, get_or, take, length-append}
use lib.Seq.{take-append-le, take-append-add, length-take-le}
use borrow.Author.Tests.{ne_eqb}
use Rattle.numbers.specs.Pick.{pick}
use Rattle.numbers.specs.declared.refusals.Refusal.TheVariants.{OutOfRange, Unreadable}
use Rattle.sevens.specs.Groups.{written}
use Rattle.sevens.proofs.GroupLaws.{read_cut}
use Rattle.peer.specs.Damage.{sound}
use Rattle.peer.specs.Gate.{fits}
use Rattle.peer.specs.Outcome.{State, unchanged}
use Rattle.peer.specs.declared.settings.Settings.{Settings}
use Rattle.places.specs.Whole.{whole}
use Rattle.order.specs.Table.{row_of}
use Rattle.order.proofs.EntryLaws.{below_or}
use Rattle.snapshot_parts.specs.Row.{grouped, Parsed, parsed, unread}
use Rattle.snapshot_parts.proofs.WriteBack.{cut_unread}
use Rattle.snapshot.specs.Calls.{snapshot_of, lent_both, complete, with_edition, read_snapshot, replaced, restores}
use Rattle.laws.proofs.ReadThenWritten.{stored_of, total_of, snapshot_parts_lem}
use Rattle.laws.proofs.ThereAndBack.{ReadOf, edition_there, read_of_lem, all_stored}

-- two parts, cut in the second
cut_behind : (xs ys : List ℕ) (m : ℕ) → length xs ≤ m → take m (xs ++ ys) ≡ xs ++ take (m - length xs) ys
cut_behind xs ys m h =
    let z : m ≡ length xs + (m - length xs) = omega arith in
    ap (λ (k : ℕ). take k (xs ++ ys)) z ∙ take-append-add xs ys (m - length xs)

-- ---- in the edition
edition_cut : (cs : List ℕ) (m : ℕ) → m < length (written 1) → read_snapshot (take m (written 1 ++ cs)) ≡ unread
unfolding read_snapshot
edition_cut cs m h =
    ap (λ (bs : List ℕ). read_snapshot bs) (take-append-le m (written 1) cs (omega arith)) ∙ ap (with_edition (take m (written 1))) (read_cut 5 1 m h)

-- that each number has 32 bits is a premise, as every u32 has
module _ (ws : List ℕ) (l : length ws ≡ 1236) (e : sound (whole ws) ≡ true) (small : (k : ℕ) → get_or ws k 0 < 4294967296) where
  abbrev numbers : List ℕ
  numbers = grouped (row_of (whole ws))

  -- in the numbers
  numbers_cut : (m : ℕ) → m < length numbers → read_snapshot (written 1 ++ take m numbers) ≡ unread
  numbers_cut m h = edition_there (take m numbers) ∙ ap complete (cut_unread ws l e small m h)

  -- too few stored bytes, or too many
  other_rest : (rest : List ℕ) → (length rest ≡ total_of ws → ⊥) → read_snapshot (written 1 ++ (numbers ++ rest)) ≡ unread
  other_rest rest n =
      let r : ReadOf ws rest = read_of_lem ws l e small rest in
      r.is ∙ ap (λ (t : Bool). pick t (parsed r.numbers rest) unread) (ne_eqb (length rest) (total_of ws) n)

  -- ---- anywhere
  parts_cut : (rest : List ℕ) → length rest ≡ total_of ws → (m : ℕ) → m < length (numbers ++ rest) → read_snapshot (written 1 ++ take m (numbers ++ rest)) ≡ unread
  parts_cut rest n m h =
      below_or m (length numbers)
      (λ (c : m < length numbers).
      ap (λ (bs : List ℕ). read_snapshot (written 1 ++ bs)) (take-append-le m numbers rest (omega arith)) ∙ numbers_cut m c)
      (λ (c : length numbers ≤ m).
      let k = m - length numbers in
      let d : k < length rest = omega (arith, h, c, length-append numbers rest) in
      ap (λ (bs : List ℕ). read_snapshot (written 1 ++ bs)) (cut_behind numbers rest m c)
      ∙ other_rest (take k rest) (λ (q : length (take k rest) ≡ total_of ws). omega (arith, q, d, n, length-take-le k rest (omega (arith, d)))))

  whole_cut : (rest : List ℕ) → length rest ≡ total_of ws → (m : ℕ) → m < length (written 1 ++ (numbers ++ rest))
      → read_snapshot (take m (written 1 ++ (numbers ++ rest))) ≡ unread
  whole_cut rest n m h =
      below_or m (length (written 1)) (edition_cut (numbers ++ rest) m)
      (λ (c : length (written 1) ≤ m).
      ap read_snapshot (cut_behind (written 1) (numbers ++ rest) m c)
      ∙ parts_cut rest n (m - length (written 1)) (omega (arith, h, c, length-append (written 1) (numbers ++ rest))))

  module _ (a b : List ℕ) (i : length a ≡ 49152) (j : length b ≡ 32768) where
    abbrev x : State
    x = record { peer = whole ws; store = a; second = b }

    pub cut_snapshot : (m : ℕ) → m < length (snapshot_of x) → read_snapshot (take m (snapshot_of x)) ≡ unread
    cut_snapshot m h =
        ap (λ (bs : List ℕ). read_snapshot (take m bs)) (snapshot_parts_lem x)
        ∙ whole_cut (stored_of x) (all_stored ws l e small a b i j) m (omega (arith, h, ap length (snapshot_parts_lem x)))

    pub extended_snapshot : (more : List ℕ) → (more ≡ [] → ⊥) → read_snapshot (snapshot_of x ++ more) ≡ unread
    extended_snapshot more n =
        ap (λ (bs : List ℕ). read_snapshot (bs ++ more)) (snapshot_parts_lem x)
        ∙ ap read_snapshot (append_assoc (written 1) (numbers ++ stored_of x) more)
        ∙ ap (λ (bs : List ℕ). read_snapshot (written 1 ++ bs)) (append_assoc numbers (stored_of x) more)
        ∙ other_rest (stored_of x ++ more) (go more n)
      where
        go : (cs : List ℕ) → (cs ≡ [] → ⊥) → length (stored_of x ++ cs) ≡ total_of ws → ⊥
        go [] z q = z refl
        go (c ∷ cs) z q = omega (arith, q, length-append (stored_of x) (c ∷ cs), all_stored ws l e small a b i j)

    -- by the call: "Nothing lent changes"
    module _ (s : Settings) (y : State) (f : fits s (lent_both y) ≡ true) where
      unread_refused : (bs : List ℕ) → read_snapshot bs ≡ unread → restores s bs y ≡ unchanged Unreadable y
      unread_refused bs q =
          ap (λ (t : Bool). pick t (replaced (read_snapshot bs) y) (unchanged OutOfRange y)) f ∙ ap (λ (p : Parsed). replaced p y) q

      pub cut_refused : (m : ℕ) → m < length (snapshot_of x) → restores s (take m (snapshot_of x)) y ≡ unchanged Unreadable y
      cut_refused m h = unread_refused (take m (snapshot_of x)) (cut_snapshot m h)

      pub extended_refused : (more : List ℕ) → (more ≡ [] → ⊥) → restores s (snapshot_of x ++ more) y ≡ unchanged Unreadable y
      extended_refused more n = unread_refused (snapshot_of x ++ more) (extended_snapshot more n)
