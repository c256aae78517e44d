-- What a step may do to the window, and what it then adds to the log. Four kinds of step, and no others; a new call only has to be shown
-- to be one of them, mostly `stays`.
-- The argument: each of them keeps what `Holds` says of every group that was delivered before.
use Prim.Native.Nat.{ℕ, ◌+◌}
use mathlib.Core.Path.{◌≡◌, refl, sym, subst, ◌∙◌}
use mathlib.Core.Bool.{Bool, true, false}
use mathlib.Core.List.{List, [], ◌∷◌}
use native.Mathlib.Omega.{arith}
use lib.Dec.{eqb}
use lib.ListN.{length-replicate, replicate}
use borrow.Author.Tests.{eqb-true}
use Rattle.numbers.specs.Pick.{pick}
use Rattle.window.specs.Window.{first}
use Rattle.promises.specs.History.{Event, was_reset, moved, delivered, Since, never, windows, later, since}
use Rattle.promises.proofs.Windows.{Window, apart, Regular, Known, Holds, Took, took_base, took_by, took_regular, took_marked, marks_kept, place_after}

abbrev pub fresh_window : Window
fresh_window = record { base = 0; words = replicate 32 0 }

pub data Effect (w v : Window) (log new : List Event) : Type 0 where
  stays : v ≡ w → new ≡ moved (apart w v) ∷ log → Effect w v log new
  clears : v ≡ fresh_window → new ≡ was_reset ∷ log → Effect w v log new
  takes : (g : ℕ) (marks : Bool) → Took w v g marks → new ≡ moved (apart w v) ∷ log → Effect w v log new
  delivers : (g : ℕ) → Took w v g true → new ≡ delivered g ∷ moved (apart w v) ∷ log → Effect w v log new

-- two parts of a sum that is 0
left_zero : (n k : ℕ) → n + k ≡ 0 → n ≡ 0
left_zero n k z = omega arith

right_zero : (n k : ℕ) → n + k ≡ 0 → k ≡ 0
right_zero n k z = omega arith

-- a group known after a move was known before it, so much less
later-windows : (n m : ℕ) (s : Since) → later n s ≡ windows m → (k : ℕ) × (s ≡ windows k) × (n + k ≡ m)
later-windows n m never e = absurd (let z : ◌≡◌ {A = ℕ} 0 1 = cc in omega arith)
later-windows n m (windows k) e = (k, refl, cc)

never-windows : (m : ℕ) → never ≡ windows m → ⊥
never-windows m e = let z : ◌≡◌ {A = ℕ} 0 1 = cc in omega arith

pub fresh_holds : (log : List Event) → ((g : ℕ) → since g log ≡ never) → Holds fresh_window log
fresh_holds log none =
    record {
      regular = record { full = length-replicate {A = ℕ} 32 0; small = omega arith; even = refl };
      known = λ g m e. absurd (never-windows m (sym (none g) ∙ e));
    }

pub empty_never : (g : ℕ) → since g [] ≡ never
unfolding since
empty_never g = refl

reset_never : (log : List Event) (g : ℕ) → since g (was_reset ∷ log) ≡ never
unfolding since
reset_never log g = refl

since-moved : (n : ℕ) (log : List Event) (g : ℕ) → since g (moved n ∷ log) ≡ later n (since g log)
unfolding since
since-moved n log g = refl

since-delivered : (h : ℕ) (log : List Event) (g : ℕ) → since g (delivered h ∷ log) ≡ pick (eqb h g) (windows 0) (since g log)
unfolding since
since-delivered h log g = refl

-- the base moved by n windows, and what was known is known, n windows later
module _ {v : Window} (log : List Event) (n : ℕ) (r : Regular v) (known : (g k : ℕ) → since g log ≡ windows k → Known v g (n + k)) where
  moved_holds : Holds v (moved n ∷ log)
  moved_holds = record { regular = r; known = known_after }
    where
      known_after : (g m : ℕ) → since g (moved n ∷ log) ≡ windows m → Known v g m
      known_after g m e =
          let l = later-windows n m (since g log) (sym (since-moved n log g) ∙ e) in
          subst (λ (j : ℕ). Known v g j) l.2 (known g l.0 l.1)

  -- and a group is delivered
  delivered_holds : (h : ℕ) → Known v h 0 → Holds v (delivered h ∷ moved n ∷ log)
  delivered_holds h here = record { regular = r; known = known_after }
    where
      known_after : (g m : ℕ) → since g (delivered h ∷ moved n ∷ log) ≡ windows m → Known v g m
      known_after g m e = go (eqb h g) refl
        where
          told : pick (eqb h g) (windows 0) (since g (moved n ∷ log)) ≡ windows m
          told = sym (since-delivered h (moved n ∷ log) g) ∙ e

          go : (b : Bool) → eqb h g ≡ b → Known v g m
          go true t =
              let now : windows 0 ≡ windows m = rw t at told in
              let none : 0 ≡ m = cc in
              subst (λ (i : ℕ). Known v i m) (eqb-true h g t) (subst (λ (j : ℕ). Known v h j) none here)
          go false t = moved_holds.known g m (rw t at told)

stay_holds : {w : Window} {log : List Event} → Holds w log → Holds w (moved (apart w w) ∷ log)
stay_holds {w} {log} h =
    let small = h.regular.small in
    let none : apart w w ≡ 0 = omega arith in
    moved_holds log (apart w w) h.regular
    (λ g k s. rw none (subst (λ (j : ℕ). Known w g j) (omega arith) (h.known g k s)))

module _ {w v : Window} {log : List Event} {g : ℕ} {marks : Bool} (t : Took w v g marks) (h : Holds w log) where
  known_after : (i k : ℕ) → since i log ≡ windows k → Known v i (apart w v + k)
  known_after i k s =
      let j = h.known i k s in
      record {
        fits = j.fits;
        place = place_after w.base v.base (first i) (apart w v) k (took_by t h.regular) j.place;
        marks = λ z. marks_kept t h.regular (left_zero (apart w v) k z) i (j.marks (right_zero (apart w v) k z));
      }

  took_holds : Holds v (moved (apart w v) ∷ log)
  took_holds = moved_holds log (apart w v) (took_regular t h.regular) known_after

  stored_holds : marks ≡ true → Holds v (delivered g ∷ moved (apart w v) ∷ log)
  stored_holds m =
      let fits = t.fits in
      let base = took_base t h.regular in
      delivered_holds log (apart w v) (took_regular t h.regular) known_after g
      (record { fits = fits; place = omega arith; marks = λ z. took_marked t h.regular m })

pub holds_after : {w v : Window} {log new : List Event} → Effect w v log new → Holds w log → Holds v new
holds_after {w} {v} {log} {new} (stays e n) h = rw (n, e) (stay_holds h)
holds_after {w} {v} {log} {new} (clears e n) h = rw (e, n) (fresh_holds (was_reset ∷ log) (reset_never log))
holds_after {w} {v} {log} {new} (takes g marks t n) h = rw n (took_holds t h)
holds_after {w} {v} {log} {new} (delivers g t n) h = rw n (stored_holds t h refl)
