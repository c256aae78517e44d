-- The walk with marks decides the rule: each slot exists and none stands twice; and after a walk that was ok the marks say what the list names.
-- The argument: a walk is ok where the slots exist, stand once and were not marked before; from no marks at all the last part always holds.
use Prim.Native.Nat.{ℕ, zero, suc, ◌+◌, ◌<◌}
use mathlib.Core.Path.{◌≡◌, refl, sym, ◌∙◌}
use mathlib.Core.List.{List, [], ◌∷◌, ◌++◌}
use mathlib.Core.Bool.{Bool, true, false, not}
use native.Mathlib.Omega.{arith}
use lib.Dec.{ltb, eqb}
use lib.ListN.{length, set, replicate, length-set, length-replicate}
use lib.Seq.{get_or-set_same, get_or-set_other}
use borrow.Author.Tests.{eqb-true, eqb-false, ltb-true}
use Rattle.numbers.proofs.BoolLaws.{both_with_true}
use Rattle.numbers.specs.Pick.{pick, both}
use Rattle.cells.specs.Runs.{has}
use Rattle.cells.specs.Free.{first_from, count_from, lowest, how_many, exist, once, is_marked, Scanned, scanned}

-- no slot of xs is marked
clear : List ℕ → List ℕ → Bool
clear m [] = true
clear m (x ∷ xs) = both (not (is_marked m x)) (clear m xs)

pub set_mark : (m : List ℕ) (x y : ℕ) → x < length m → is_marked (set m x 1) y ≡ pick (eqb y x) true (is_marked m y)
set_mark m x y h = go (eqb y x) refl
  where
    go : (b : Bool) → eqb y x ≡ b → is_marked (set m x 1) y ≡ pick b true (is_marked m y)
    go true e =
        let q : y ≡ x = eqb-true y x e in
        rw (q, get_or-set_same m x 1 0 h)
    go false e = rw (get_or-set_other m x y 1 0 (eqb-false y x e))

pub set_mark_past : (m : List ℕ) (x y : ℕ) → y < length m → is_marked (set m x 1) y ≡ pick (eqb x y) true (is_marked m y)
set_mark_past m x y h = go (eqb x y) refl
  where
    go : (b : Bool) → eqb x y ≡ b → is_marked (set m x 1) y ≡ pick b true (is_marked m y)
    go true e =
        let q : x ≡ y = eqb-true x y e in
        rw (q, get_or-set_same m y 1 0 h)
    go false e = rw (get_or-set_other m x y 1 0 (λ q. eqb-false x y e (sym q)))

shuffle : (e k h c : Bool) → both (not (pick e true k)) (both (not h) c) ≡ both (not (pick e true h)) (both (not k) c)
shuffle true k h c = refl
shuffle false true true c = refl
shuffle false true false c = refl
shuffle false false true c = refl
shuffle false false false c = refl

clear-set : (m : List ℕ) (x : ℕ) (xs : List ℕ) → x < length m → clear (set m x 1) xs ≡ both (not (has xs x)) (clear m xs)
unfolding clear
clear-set m x [] h = refl
clear-set m x (y ∷ ys) h = rw (clear-set m x ys h, set_mark m x y h) (shuffle (eqb y x) (is_marked m y) (has ys x) (clear m ys))

-- one step of the theorem, at Bools
step : (t k h E O C : Bool) (s : Scanned) (m : List ℕ) → (t ≡ true → s.ok ≡ both E (both O (both (not h) C)))
    → (pick (both t (not k)) s (record { ok = false; marks = m })).ok ≡ both (both t E) (both (both (not h) O) (both (not k) C))
step false k h E O C s m f = refl
step true true h false O C s m f = refl
step true true true true O C s m f = refl
step true true false true true C s m f = refl
step true true false true false C s m f = refl
step true false h E O C s m f = f refl ∙ last h E O C
  where
    last : (h E O C : Bool) → both E (both O (both (not h) C)) ≡ both E (both (both (not h) O) C)
    last h false O C = refl
    last true true true C = refl
    last true true false C = refl
    last false true true C = refl
    last false true false C = refl

scan_ok : (n : ℕ) (m xs : List ℕ) → length m ≡ n → (scanned m xs).ok ≡ both (exist n xs) (both (once xs) (clear m xs))
unfolding scanned exist once clear
scan_ok n m [] e = refl
scan_ok n m (x ∷ xs) e =
    rw e
    (step (ltb x n) (is_marked m x) (has xs x) (exist n xs) (once xs) (clear m xs) (scanned (set m x 1) xs) m
    (λ t.
    let h : x < length m = omega (arith, ltb-true x n t) in
    scan_ok n (set m x 1) xs (length-set m x 1 ∙ e) ∙ rw (clear-set m x xs h)))

pub unmarked : (n x : ℕ) → is_marked (replicate n 0) x ≡ false
unmarked zero x = refl
unmarked (suc n) zero = refl
unmarked (suc n) (suc x) = unmarked n x

clear_none : (n : ℕ) (xs : List ℕ) → clear (replicate n 0) xs ≡ true
unfolding clear
clear_none n [] = refl
clear_none n (x ∷ xs) = rw (unmarked n x, clear_none n xs)

-- from no marks, the walk decides the rule
pub scan_rule : (n : ℕ) (xs : List ℕ) → (scanned (replicate n 0) xs).ok ≡ both (exist n xs) (once xs)
scan_rule n xs = scan_ok n (replicate n 0) xs (length-replicate n 0) ∙ rw (clear_none n xs, both_with_true)

-- the walk over a list that is two lists
pub scan_append : (m xs ys : List ℕ) → scanned m (xs ++ ys) ≡ pick (scanned m xs).ok (scanned (scanned m xs).marks ys) (scanned m xs)
unfolding scanned
scan_append m [] ys = refl
scan_append m (x ∷ xs) ys = turn (both (ltb x (length m)) (not (is_marked m x))) (scan_append (set m x 1) xs ys)
  where
    turn : (b : Bool) → scanned (set m x 1) (xs ++ ys) ≡ pick (scanned (set m x 1) xs).ok (scanned (scanned (set m x 1) xs).marks ys) (scanned (set m x 1) xs)
        → pick b (scanned (set m x 1) (xs ++ ys)) (record { ok = false; marks = m })
        ≡ pick (pick b (scanned (set m x 1) xs) (record { ok = false; marks = m })).ok
        (scanned (pick b (scanned (set m x 1) xs) (record { ok = false; marks = m })).marks ys)
        (pick b (scanned (set m x 1) xs) (record { ok = false; marks = m }))
    turn true f = f
    turn false f = refl

-- so the two walks one after the other answer what the one over both does
pub scan_append_ok : (m xs ys : List ℕ) → (scanned m (xs ++ ys)).ok ≡ both (scanned m xs).ok (scanned (scanned m xs).marks ys).ok
scan_append_ok m xs ys = rw (scan_append m xs ys) (at (scanned m xs).ok refl)
  where
    at : (b : Bool) → (scanned m xs).ok ≡ b → (pick b (scanned (scanned m xs).marks ys) (scanned m xs)).ok ≡ both b (scanned (scanned m xs).marks ys).ok
    at true e = refl
    at false e = e

pub scan_append_marks : (m xs ys : List ℕ) → (scanned m xs).ok ≡ true → (scanned m (xs ++ ys)).marks ≡ (scanned (scanned m xs).marks ys).marks
scan_append_marks m xs ys e = rw (scan_append m xs ys, e)

-- the marks stay as many
pub length-scanned : (m xs : List ℕ) → length (scanned m xs).marks ≡ length m
unfolding scanned
length-scanned m [] = refl
length-scanned m (x ∷ xs) = go (both (ltb x (length m)) (not (is_marked m x))) (length-scanned (set m x 1) xs ∙ length-set m x 1)
  where
    go : (b : Bool) → length (scanned (set m x 1) xs).marks ≡ length m
        → length (pick b (scanned (set m x 1) xs) (record { ok = false; marks = m })).marks ≡ length m
    go true e = e
    go false e = refl

pub or_swap : (a b v : Bool) → pick a true (pick b true v) ≡ pick (pick b true a) true v
or_swap true true v = refl
or_swap true false v = refl
or_swap false true v = refl
or_swap false false v = refl

-- after a walk that was ok, marked are those that were and those that the list names
pub scan_marks : (m xs : List ℕ) (k : ℕ) → k < length m → (scanned m xs).ok ≡ true
    → is_marked (scanned m xs).marks k ≡ pick (has xs k) true (is_marked m k)
unfolding scanned
scan_marks m [] k h ok = refl
scan_marks m (x ∷ xs) k h ok =
    go (scan_marks (set m x 1) xs k (rw (length-set m x 1) h)) (both (ltb x (length m)) (not (is_marked m x))) ok
  where
    go : ((scanned (set m x 1) xs).ok ≡ true → is_marked (scanned (set m x 1) xs).marks k ≡ pick (has xs k) true (is_marked (set m x 1) k))
        → (b : Bool) → (pick b (scanned (set m x 1) xs) (record { ok = false; marks = m })).ok ≡ true
        → is_marked (pick b (scanned (set m x 1) xs) (record { ok = false; marks = m })).marks k ≡ pick (pick (eqb x k) true (has xs k)) true (is_marked m k)
    go rest true e = rest e ∙ rw (set_mark_past m x k h, or_swap)
    go rest false e = let z : ◌≡◌ {A = ℕ} 0 1 = cc in absurd (omega arith)

pub off : (b : Bool) → pick b true false ≡ b
off true = refl
off false = refl

-- from no marks, the marks say what the list names
pub marks_say : (n : ℕ) (xs : List ℕ) (k : ℕ) → k < n → (scanned (replicate n 0) xs).ok ≡ true → is_marked (scanned (replicate n 0) xs).marks k ≡ has xs k
marks_say n xs k h ok = scan_marks (replicate n 0) xs k (rw (length-replicate {A = ℕ} n 0) h) ok ∙ rw (unmarked n k, off)

-- tests that agree on the numbers looked at find the same, and as many
pub first_same : (f g : ℕ → Bool) (left k : ℕ) → ((j : ℕ) → j < k + left → f j ≡ g j) → first_from f left k ≡ first_from g left k
unfolding first_from
first_same f g zero k h = refl
first_same f g (suc left) k h = rw (h k (omega arith), first_same f g left (k + 1) (λ j q. h j (omega arith)))

pub count_same : (f g : ℕ → Bool) (left k : ℕ) → ((j : ℕ) → j < k + left → f j ≡ g j) → count_from f left k ≡ count_from g left k
unfolding count_from
count_same f g zero k h = refl
count_same f g (suc left) k h = rw (h k (omega arith), count_same f g left (k + 1) (λ j q. h j (omega arith)))

pub marks-lowest : (n : ℕ) (xs : List ℕ) → (scanned (replicate n 0) xs).ok ≡ true → first_from (is_marked (scanned (replicate n 0) xs).marks) n 0 ≡ lowest n xs
marks-lowest n xs ok = first_same (is_marked (scanned (replicate n 0) xs).marks) (has xs) n 0 (λ j q. marks_say n xs j (omega arith) ok)

pub marks_count : (n : ℕ) (xs : List ℕ) → (scanned (replicate n 0) xs).ok ≡ true → count_from (is_marked (scanned (replicate n 0) xs).marks) n 0 ≡ how_many n xs
marks_count n xs ok = count_same (is_marked (scanned (replicate n 0) xs).marks) (has xs) n 0 (λ j q. marks_say n xs j (omega arith) ok)
