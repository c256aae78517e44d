-- The walk's marks: each is one of three, so each slot of the list bears exactly one of them; and what the walk leaves in the slots.
-- The argument: by cases on the step's tests, and by induction on the list that is walked.
use Prim.Native.Nat.{ℕ, zero, suc, ◌+◌, ◌≤◌}
use mathlib.Core.Path.{◌≡◌, refl, ap, ◌∙◌}
use mathlib.Core.Bool.{Bool, true, false}
use mathlib.Core.List.{List, [], ◌∷◌}
use native.Mathlib.Omega.{arith}
use lib.Dec.{eqb, ltb}
use lib.ListN.{length, get_or, set, drop, length-set}
use lib.Seq.{get_or-drop, get_or-set_same, get_or-set_other, set_out}
use borrow.Author.Tests.{eqb-true, eqb-false, ltb-true, ltb-false}
use Rattle.numbers.specs.Pick.{pick}
use Rattle.record.proofs.Keeps.{one, times}
use Rattle.record.specs.Fresh.{no_outgoing}
use Rattle.record.specs.Updates.{with_timeout}
use Rattle.record.specs.declared.groups.Limits.{Limits}
use Rattle.record.specs.declared.groups.Outgoing.{Outgoing}
use Rattle.overdue.specs.Overdue.{stays, back_outgoing, back_reliable, is_due, earliest_by, is_given_up, next_by, kept_in, over_in, goes_back, stays_in, step_by}
use Rattle.overdue.specs.Walking.{sent_of, turn_by, walked, bearing}
use Rattle.overdue.specs.declared.step.Sent.{Sent}
use Rattle.overdue.specs.declared.step.Walk.{Walk}

-- a step marks by one of three
step_mark : (l : Limits) (clock : ℕ) (w : Walk) (o : Sent) → (step_by l clock w o).mark ≤ 2
step_mark l clock w o =
    let e = earliest_by w.earliest o.sent in
    go (next_by w o) e w.over (is_due clock o) (is_given_up l clock e o.attempts) (back o.packet)
  where
    back : (b : Bool) → pick b back_reliable back_outgoing ≤ 2
    back true = omega arith
    back false = omega arith

    go : (n e : ℕ) (a b c : Bool) → pick o.packet back_reliable back_outgoing ≤ 2
        → (pick a (stays_in w o) (pick b (pick c (stays_in (over_in w n e) o) (goes_back w n e o)) (stays_in (kept_in w n) o))).mark ≤ 2
    go n e true b c h = omega arith
    go n e false true true h = omega arith
    go n e false true false h = h
    go n e false false c h = omega arith

abbrev pub Low : List ℕ → Type 0
Low ms = (i : ℕ) → get_or ms i stays ≤ 2

pub walk_low : (l : Limits) (clock : ℕ) (xs : List ℕ) (w : Walk) (slots : List Outgoing) → Low (walked l clock xs w slots).marks
unfolding walked
walk_low l clock [] w slots i = omega arith
walk_low l clock (s ∷ ss) w slots zero = step_mark l clock w (sent_of (get_or slots s no_outgoing))
walk_low l clock (s ∷ ss) w slots (suc i) =
    let t = turn_by l clock w (get_or slots s no_outgoing) in walk_low l clock ss t.walk (set slots s t.slot) i

low_rest : (ms : List ℕ) → Low ms → Low (drop 1 ms)
low_rest ms h i = rw (get_or-drop 1 ms i stays) (h (1 + i))

-- each slot bears one of them
pub bearing-times : (ms xs : List ℕ) → Low ms → (k : ℕ)
    → times (bearing stays ms xs) k + (times (bearing back_reliable ms xs) k + times (bearing back_outgoing ms xs) k) ≡ times xs k
unfolding bearing
bearing-times ms [] h k = refl
bearing-times ms (x ∷ xs) h k = go (get_or ms 0 stays) (h 0) (bearing-times (drop 1 ms) xs (low_rest ms h) k)
  where
    go : (m : ℕ) → m ≤ 2
        → times (bearing stays (drop 1 ms) xs) k + (times (bearing back_reliable (drop 1 ms) xs) k + times (bearing back_outgoing (drop 1 ms) xs) k) ≡ times xs k
        → times (pick (eqb m stays) (x ∷ bearing stays (drop 1 ms) xs) (bearing stays (drop 1 ms) xs)) k
        + (times (pick (eqb m back_reliable) (x ∷ bearing back_reliable (drop 1 ms) xs) (bearing back_reliable (drop 1 ms) xs)) k
        + times (pick (eqb m back_outgoing) (x ∷ bearing back_outgoing (drop 1 ms) xs) (bearing back_outgoing (drop 1 ms) xs)) k)
        ≡ one x k + times xs k
    go zero h e = omega (arith, e)
    go (suc zero) h e = omega (arith, e)
    go (suc (suc zero)) h e = omega (arith, e)
    go (suc (suc (suc m))) h e = absurd (omega arith)

-- and those of one mark are some of the list
pub bearing_some : (mark : ℕ) (ms xs : List ℕ) (k : ℕ) → times (bearing mark ms xs) k ≤ times xs k
unfolding bearing
bearing_some mark ms [] k = omega arith
bearing_some mark ms (x ∷ xs) k = go (eqb (get_or ms 0 stays) mark) (bearing_some mark (drop 1 ms) xs k)
  where
    go : (b : Bool) → times (bearing mark (drop 1 ms) xs) k ≤ times xs k
        → times (pick b (x ∷ bearing mark (drop 1 ms) xs) (bearing mark (drop 1 ms) xs)) k ≤ one x k + times xs k
    go true h = omega arith
    go false h = omega arith

-- without marks all stay
pub unmarked_stay : (xs : List ℕ) → bearing stays [] xs ≡ xs
unfolding bearing
unmarked_stay [] = refl
unmarked_stay (x ∷ xs) = ap (λ (ys : List ℕ). x ∷ ys) (unmarked_stay xs)

pub unmarked_move : (mark : ℕ) → eqb stays mark ≡ false → (xs : List ℕ) → bearing mark [] xs ≡ []
unfolding bearing
unmarked_move mark e [] = refl
unmarked_move mark e (x ∷ xs) = rw e (unmarked_move mark e xs)

-- ---- the slots: all stays but the timeout
abbrev pub Keeps : Outgoing → Outgoing → Type 0
Keeps before after = after ≡ with_timeout before after.timeout

pub keeps_on : (a b c : Outgoing) → Keeps a b → Keeps b c → Keeps a c
keeps_on a b c x y = y ∙ ap (λ (o : Outgoing). with_timeout o c.timeout) x

pub set_keeps : (slots : List Outgoing) (s t k : ℕ)
    → Keeps (get_or slots k no_outgoing) (get_or (set slots s (with_timeout (get_or slots s no_outgoing) t)) k no_outgoing)
set_keeps slots s t k = go (eqb k s) refl (ltb s (length slots)) refl
  where
    go : (b : Bool) → eqb k s ≡ b → (c : Bool) → ltb s (length slots) ≡ c
        → Keeps (get_or slots k no_outgoing) (get_or (set slots s (with_timeout (get_or slots s no_outgoing) t)) k no_outgoing)
    go true e true h =
        let z : k ≡ s = eqb-true k s e in
        rw (z, get_or-set_same slots s (with_timeout (get_or slots s no_outgoing) t) no_outgoing (ltb-true s (length slots) h)) refl
    go true e false h = rw (set_out slots s (with_timeout (get_or slots s no_outgoing) t) (ltb-false s (length slots) h)) refl
    go false e c h = rw (get_or-set_other slots s k (with_timeout (get_or slots s no_outgoing) t) no_outgoing (eqb-false k s e)) refl

pub walk_keeps : (l : Limits) (clock : ℕ) (xs : List ℕ) (w : Walk) (slots : List Outgoing) (k : ℕ)
    → Keeps (get_or slots k no_outgoing) (get_or (walked l clock xs w slots).slots k no_outgoing)
unfolding walked
walk_keeps l clock [] w slots k = refl
walk_keeps l clock (s ∷ ss) w slots k =
    let t = turn_by l clock w (get_or slots s no_outgoing) in
    keeps_on (get_or slots k no_outgoing) (get_or (set slots s t.slot) k no_outgoing) _ (set_keeps slots s t.slot.timeout k)
    (walk_keeps l clock ss t.walk (set slots s t.slot) k)

pub walk_length : (l : Limits) (clock : ℕ) (xs : List ℕ) (w : Walk) (slots : List Outgoing) → length (walked l clock xs w slots).slots ≡ length slots
unfolding walked
walk_length l clock [] w slots = refl
walk_length l clock (s ∷ ss) w slots =
    let t = turn_by l clock w (get_or slots s no_outgoing) in
    walk_length l clock ss t.walk (set slots s t.slot) ∙ length-set slots s t.slot
