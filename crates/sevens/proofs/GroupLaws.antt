-- Both round trips of numbers in groups: what was written is read, and what was read begins with the number's groups, its one form. Cut or over-long forms
-- are unread. The argument: induction on the groups that are left; the test of 128 decides the case on both sides.
use mathlib.Core.Path.{◌≡◌, refl, ap, sym, ◌∙◌}
use mathlib.Core.Bool.{Bool, true, false}
use mathlib.Core.List.{List, [], ◌∷◌, ◌++◌, append_assoc}
use Prim.Native.Nat.{ℕ, zero, suc, ◌+◌, ◌*◌, ◌-◌, ◌/◌, ◌%◌, ◌^◌, ◌≤◌, ◌<◌}
use native.Mathlib.Numerals.{add-one}
use native.Mathlib.Nat.{pow-succ', pow-le-pow_right}
use native.Mathlib.Omega.{arith}
use lib.Dec.{ltb, eqb}
use lib.ListN.{length, get_or, take, drop}
use lib.Seq.{sets, sets-eq, drop_at, length-take-le}
use borrow.Author.Tests.{ltb-true, ltb-false, eqb-true, eqb-false, lt-ltb, le-ltb}
use Rattle.numbers.specs.Pick.{pick}
use Rattle.sevens.specs.Groups.{grouped, groups, written, below, number_in, read, value_of, groups_of}
use Rattle.sevens.specs.Form.{Form}
use Rattle.sevens.specs.declared.Grouped.{Grouped}
use Rattle.std.specs.Prelude.{Option, Some, None}
use Rattle.sevens.proofs.Reading.{first_last, first_more, below_none, below_some}

-- ---- a number's groups
pub groups_last : (n x : ℕ) → x < 128 → groups (suc n) x ≡ x ∷ []
unfolding groups
groups_last n x h = rw (lt-ltb x 128 h)

pub groups_more : (n x : ℕ) → 128 ≤ x → groups (suc n) x ≡ (x % 128 + 128) ∷ groups n (x / 128)
unfolding groups
groups_more n x h = rw (le-ltb x 128 h)

pub rest_small : (n x : ℕ) → x < 128 ^ suc n → x / 128 < 128 ^ n
rest_small n x h = let l : x < 128 * 128 ^ n = rw pow-succ' at h in omega arith

pub groups_long : (n x : ℕ) → 1 ≤ length (groups (suc n) x)
unfolding groups
groups_long n x = go (ltb x 128)
  where
    go : (t : Bool) → 1 ≤ length (pick t (x ∷ []) ((x % 128 + 128) ∷ groups n (x / 128)))
    go true = omega arith
    go false = omega arith

pub groups_few : (n x : ℕ) → length (groups n x) ≤ n
unfolding groups
groups_few zero x = omega arith
groups_few (suc n) x = go (ltb x 128) (groups_few n (x / 128))
  where
    go : (t : Bool) → length (groups n (x / 128)) ≤ n → length (pick t (x ∷ []) ((x % 128 + 128) ∷ groups n (x / 128))) ≤ suc n
    go true l = omega arith
    go false l = omega arith

pub groups_bytes : (n x j : ℕ) → get_or (groups n x) j 0 < 256
unfolding groups
groups_bytes zero x j = omega arith
groups_bytes (suc n) x j = go (ltb x 128) refl j (groups_bytes n (x / 128))
  where
    go : (t : Bool) → ltb x 128 ≡ t → (j : ℕ) → ((j : ℕ) → get_or (groups n (x / 128)) j 0 < 256)
        → get_or (pick t (x ∷ []) ((x % 128 + 128) ∷ groups n (x / 128))) j 0 < 256
    go true e zero all = omega (arith, ltb-true x 128 e)
    go true e (suc j) all = omega arith
    go false e zero all = omega arith
    go false e (suc j) all = all j

-- ---- what was written is read
-- from a first group and what the rest was read as
read_more : (x k : ℕ) → 128 ≤ x → below (x % 128 + 128) (grouped (x / 128) k) ≡ grouped x (suc k)
read_more x k h =
    let v : x % 128 + 128 - 128 + 128 * (x / 128) ≡ x = omega arith in
    below_some (x % 128 + 128) (x / 128) k (λ e. omega arith) ∙ rw (v, add-one k)

pub read_written : (n x : ℕ) (rest : List ℕ) → x < 128 ^ suc n → number_in (suc n) (groups (suc n) x ++ rest) ≡ grouped x (length (groups (suc n) x))
read_written zero x rest h =
    let l : x < 128 = omega arith in
    rw (groups_last 0 x l) (first_last 0 x rest l)
read_written (suc n) x rest h = go (ltb x 128) refl (read_written n (x / 128) rest (rest_small (suc n) x h))
  where
    go : (t : Bool) → ltb x 128 ≡ t
        → number_in (suc n) (groups (suc n) (x / 128) ++ rest) ≡ grouped (x / 128) (length (groups (suc n) (x / 128)))
        → number_in (suc (suc n)) (groups (suc (suc n)) x ++ rest) ≡ grouped x (length (groups (suc (suc n)) x))
    go true e r =
        let l = ltb-true x 128 e in
        rw (groups_last (suc n) x l) (first_last (suc n) x rest l)
    go false e r =
        let l = ltb-false x 128 e in
        rw (groups_more (suc n) x l)
        (first_more (suc n) (x % 128 + 128) (groups (suc n) (x / 128) ++ rest) (omega arith)
        ∙ ap (below (x % 128 + 128)) r
        ∙ read_more x (length (groups (suc n) (x / 128))) l)

pub read_back : (x : ℕ) (rest : List ℕ) → x < 4294967296 → read (written x ++ rest) ≡ grouped x (length (written x))
read_back x rest h = read_written 4 x rest (omega arith)

-- what `put` leaves is read at its place
pub put_read : (b : List ℕ) (at x : ℕ) → x < 4294967296 → at + length (written x) ≤ length b
    → read (drop at (sets b at (written x))) ≡ grouped x (length (written x))
put_read b at x h room =
    let rest = drop (at + length (written x)) b in
    let e : sets b at (written x) ≡ take at b ++ (written x ++ rest) = sets-eq (written x) b at room ∙ append_assoc (take at b) (written x) rest in
    rw (e, drop_at (take at b) (written x ++ rest) at (length-take-le at b (omega arith))) (read_back x rest h)

-- ---- what was read is the number's one form
form_last : (n b : ℕ) (bs : List ℕ) → b < 128 → Form (suc n) (b ∷ bs) b 1
form_last n b bs h =
    record {
      small = rw pow-succ' (omega (arith, pow-le-pow_right {n = 128} (omega arith) {i = 0} {j = n} (omega arith)));
      some = omega arith;
      there = omega arith;
      count = sym (ap length (groups_last n b h));
      begins = sym (groups_last n b h);
    }

form_more : (n b : ℕ) (bs : List ℕ) (v k : ℕ) → 128 ≤ b → b < 256 → (v ≡ 0 → ⊥) → Form n bs v k
    → Form (suc n) (b ∷ bs) (b - 128 + 128 * v) (k + 1)
form_more n b bs v k l h some f =
    let x = b - 128 + 128 * v in
    let first : x % 128 + 128 ≡ b = omega arith in
    let rest : x / 128 ≡ v = omega arith in
    let one : 1 ≤ v = omega (arith, some) in
    let long : 128 ≤ x = omega arith in
    let e : groups (suc n) x ≡ b ∷ groups n v = groups_more n x long ∙ rw (first, rest) in
    record {
      small = rw pow-succ' (omega (arith, f.small));
      some = omega arith;
      there = omega (arith, f.there);
      count = rw (e, add-one k) (ap suc f.count);
      begins = rw (e, add-one k) (ap (λ (r : List ℕ). b ∷ r) f.begins);
    }

pub written_read : (n : ℕ) (bs : List ℕ) (v k : ℕ) → ((j : ℕ) → get_or bs j 0 < 256) → number_in n bs ≡ grouped v k → Form n bs v k
unfolding number_in
written_read zero bs v k all e = absurd (let z : ◌≡◌ {A = ℕ} 0 1 = cc in omega arith)
written_read (suc n) [] v k all e = absurd (let z : ◌≡◌ {A = ℕ} 0 1 = cc in omega arith)
written_read (suc n) (b ∷ bs) v k all e = go (ltb b 128) refl (λ w j q. written_read n bs w j (λ i. all (suc i)) q) e
  where
    more : (g : Option Grouped) → 128 ≤ b → number_in n bs ≡ g → ((w j : ℕ) → number_in n bs ≡ grouped w j → Form n bs w j) → below b g ≡ grouped v k
        → Form (suc n) (b ∷ bs) v k
    more None l p forms q = absurd (let z : ◌≡◌ {A = ℕ} 0 1 = cc in omega arith)
    more (Some g) l p forms q = zeroed (eqb w 0) refl
      where
        w : ℕ
        w = g.value

        j : ℕ
        j = g.groups

        zeroed : (t : Bool) → eqb w 0 ≡ t → Form (suc n) (b ∷ bs) v k
        zeroed true z =
            let u : None ≡ grouped v k = sym (below_none b w j (eqb-true w 0 z)) ∙ q in
            absurd (let z : ◌≡◌ {A = ℕ} 0 1 = cc in omega arith)
        zeroed false z =
            let u : grouped (b - 128 + 128 * w) (j + 1) ≡ grouped v k = sym (below_some b w j (eqb-false w 0 z)) ∙ q in
            let uv : b - 128 + 128 * w ≡ v = ap value_of u in
            let uk : j + 1 ≡ k = ap groups_of u in
            rw (← uv, ← uk) (form_more n b bs w j l (all 0) (eqb-false w 0 z) (forms w j p))

    go : (t : Bool) → ltb b 128 ≡ t → ((w j : ℕ) → number_in n bs ≡ grouped w j → Form n bs w j)
        → pick t (grouped b 1) (below b (number_in n bs)) ≡ grouped v k → Form (suc n) (b ∷ bs) v k
    go true p forms q =
        let uv : b ≡ v = ap value_of q in
        let uk : 1 ≡ k = ap groups_of q in
        rw (← uv, ← uk) (form_last n b bs (ltb-true b 128 p))
    go false p forms q = more (number_in n bs) (ltb-false b 128 p) refl forms q

pub one_form : (n : ℕ) (bs cs : List ℕ) (v k j : ℕ) → ((i : ℕ) → get_or bs i 0 < 256) → ((i : ℕ) → get_or cs i 0 < 256)
    → number_in n bs ≡ grouped v k → number_in n cs ≡ grouped v j → (k ≡ j) × (take k bs ≡ take j cs)
one_form n bs cs v k j all-b all-c p q =
    let f = written_read n bs v k all-b p in
    let g = written_read n cs v j all-c q in
    (f.count ∙ sym g.count, f.begins ∙ sym g.begins)

-- ---- what is unread
-- a form that is cut
pub read_cut : (n x m : ℕ) → m < length (groups n x) → number_in n (take m (groups n x)) ≡ None
unfolding number_in
read_cut zero x m h = refl
read_cut (suc n) x zero h = refl
read_cut (suc n) x (suc m) h = go (ltb x 128) refl (read_cut n (x / 128) m)
  where
    go : (t : Bool) → ltb x 128 ≡ t → (m < length (groups n (x / 128)) → number_in n (take m (groups n (x / 128))) ≡ None)
        → number_in (suc n) (take (suc m) (groups (suc n) x)) ≡ None
    go true e cut = absurd (omega (arith, ap length (groups_last n x (ltb-true x 128 e))))
    go false e cut =
        let l = ltb-false x 128 e in
        let s : m < length (groups n (x / 128)) = omega (arith, ap length (groups_more n x l)) in
        rw (groups_more n x l)
        (first_more n (x % 128 + 128) (take m (groups n (x / 128))) (omega arith) ∙ ap (below (x % 128 + 128)) (cut s))

-- a form whose last group, behind others, is 0
pub over_long : (n b : ℕ) (gs rest : List ℕ) → 128 ≤ b → ((j : ℕ) → j < length gs → 128 ≤ get_or gs j 0)
    → number_in n (b ∷ gs ++ 0 ∷ rest) ≡ None
unfolding number_in
over_long zero b gs rest h all = refl
over_long (suc zero) b [] rest h all = first_more 0 b (0 ∷ rest) h
over_long (suc (suc n)) b [] rest h all = first_more (suc n) b (0 ∷ rest) h
over_long (suc n) b (g ∷ gs) rest h all =
    first_more n b (g ∷ gs ++ 0 ∷ rest) h
    ∙ ap (below b) (over_long n g gs rest (all 0 (omega arith)) (λ j l. all (suc j) (omega arith)))

-- groups that do not end
pub unended : (n : ℕ) (bs : List ℕ) → ((j : ℕ) → j < n → j < length bs → 128 ≤ get_or bs j 0) → number_in n bs ≡ None
unfolding number_in
unended zero bs all = refl
unended (suc n) [] all = refl
unended (suc n) (b ∷ bs) all =
    first_more n b bs (all 0 (omega arith) (omega arith))
    ∙ ap (below b) (unended n bs (λ j h l. all (suc j) (omega arith) (omega arith)))

-- ---- the edges, computed
pub edge_shortest : read (0 ∷ []) ≡ grouped 0 1
unfolding number_in
edge_shortest = refl

pub edge_over_long : read (128 ∷ 0 ∷ []) ≡ None
unfolding number_in
edge_over_long = refl

pub edge_32_bits : read (255 ∷ 255 ∷ 255 ∷ 255 ∷ 15 ∷ []) ≡ grouped 4294967295 5
unfolding number_in
edge_32_bits = refl

pub edge_35_bits : read (255 ∷ 255 ∷ 255 ∷ 255 ∷ 127 ∷ []) ≡ grouped 34359738367 5
unfolding number_in
edge_35_bits = refl

pub edge_six_groups : read (128 ∷ 128 ∷ 128 ∷ 128 ∷ 128 ∷ 1 ∷ []) ≡ None
unfolding number_in
edge_six_groups = refl

pub edge_written : written 4294967295 ≡ 255 ∷ 255 ∷ 255 ∷ 255 ∷ 15 ∷ []
unfolding groups
edge_written = refl
