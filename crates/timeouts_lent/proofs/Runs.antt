-- The run midway: i of it walked, the rest as it was. At 0 it is the run, a turn takes it one further, at its length it is the walked run.
-- The argument: by induction on i; the turn on a run's head leaves the numbers that its rest begins with.
use Prim.Native.Nat.{ℕ, zero, suc, ◌+◌, ◌≤◌, ◌<◌}
use mathlib.Core.Path.{◌≡◌, refl, ap, sym, ◌∙◌}
use mathlib.Core.List.{List, [], ◌∷◌}
use native.Mathlib.Numerals.{add-one}
use native.Mathlib.Omega.{arith}
use lib.ListN.{length, get_or, set}
use Rattle.record.specs.declared.groups.Limits.{Limits}
use Rattle.overdue.specs.declared.step.Walk.{Walk}
use Rattle.timeouts_lent.specs.Walking.{turn_of, Walked, headed, walked_run}
use Rattle.timeouts_lent.specs.declared.Awaiting.{Awaiting}
use Rattle.timeouts_lent.specs.declared.Turned.{Turned}

module _ (l : Limits) (clock : ℕ) where
  -- i of the run walked, and the numbers that the next is given
  pub midway : Walk → ℕ → List Awaiting → Walked
  midway w zero ys = record { walk = w; run = ys }
  midway w (suc i) [] = record { walk = w; run = [] }
  midway w (suc i) (y ∷ ys) = let t = turn_of l clock w y in headed t.awaiting (midway t.walk i ys)

  -- a turn at i: its numbers are carried on, its command is stored
  abbrev stored : Walked → ℕ → Turned → Walked
  stored m i t = record { walk = t.walk; run = set m.run i t.awaiting }

  pub mid_start : (w : Walk) (ys : List Awaiting) → midway w 0 ys ≡ record { walk = w; run = ys }
  unfolding midway
  mid_start w ys = refl

  -- no turn adds a command or takes one
  pub mid_length : (w : Walk) (i : ℕ) (ys : List Awaiting) → length (midway w i ys).run ≡ length ys
  unfolding midway
  mid_length w zero ys = refl
  mid_length w (suc i) [] = refl
  mid_length w (suc i) (y ∷ ys) = ap suc (mid_length (turn_of l clock w y).walk i ys)

  -- the turns before i leave what stands at i, so the turn there is the next of the walk
  mid_turn : (w : Walk) (i : ℕ) (ys : List Awaiting) (d : Awaiting) → i < length ys
      → stored (midway w i ys) i (turn_of l clock (midway w i ys).walk (get_or (midway w i ys).run i d)) ≡ midway w (suc i) ys
  unfolding midway
  mid_turn w zero [] d h = absurd (omega arith)
  mid_turn w zero (y ∷ ys) d h = refl
  mid_turn w (suc i) [] d h = absurd (omega arith)
  mid_turn w (suc i) (y ∷ ys) d h =
      let t = turn_of l clock w y in
      ap (headed t.awaiting) (mid_turn t.walk i ys d (omega arith))

  -- the same as the code counts, of what `turn` answered
  pub mid_next : (w : Walk) (i : ℕ) (ys : List Awaiting) (d : Awaiting) (t : Turned) → i < length ys
      → t ≡ turn_of l clock (midway w i ys).walk (get_or (midway w i ys).run i d) → stored (midway w i ys) i t ≡ midway w (i + 1) ys
  mid_next w i ys d t h e = ap (stored (midway w i ys) i) e ∙ mid_turn w i ys d h ∙ ap (λ (j : ℕ). midway w j ys) (sym (add-one i))

  -- past its length no rest is left
  pub mid_end : (w : Walk) (i : ℕ) (ys : List Awaiting) → length ys ≤ i → midway w i ys ≡ walked_run l clock w ys
  unfolding midway walked_run
  mid_end w zero [] h = refl
  mid_end w zero (y ∷ ys) h = absurd (omega arith)
  mid_end w (suc i) [] h = refl
  mid_end w (suc i) (y ∷ ys) h =
      let t = turn_of l clock w y in
      ap (headed t.awaiting) (mid_end t.walk i ys (omega arith))

  -- the same of the numbers and the run that the code has midway
  pub mid_kept : (w : Walk) (i : ℕ) (ys zs : List Awaiting) (v : Walk) (d : Awaiting) (t : Turned) → i < length ys
      → record { walk = v; run = zs } ≡ midway w i ys → t ≡ turn_of l clock v (get_or zs i d)
      → record { walk = t.walk; run = set zs i t.awaiting } ≡ midway w (i + 1) ys
  mid_kept w i ys zs v d t h e made =
      ap (λ (m : Walked). stored m i t) e
      ∙ mid_next w i ys d t h (made ∙ ap (λ (m : Walked). turn_of l clock m.walk (get_or m.run i d)) e)
