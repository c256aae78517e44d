-- What a host may lend, and what it gets back. Flags lent as 1 or 0: the walk by the step alone. Any other byte but 0: the same as 1. The flags that
-- come back are 0 or 1, and of a command the timeout and the mark alone change.
-- The argument: a flag that was written is read as it was; by induction on the run.
use Prim.Native.Nat.{ℕ, ◌≤◌}
use mathlib.Core.Path.{◌≡◌, refl, ap, ◌∙◌}
use mathlib.Core.Bool.{Bool, true, false}
use mathlib.Core.List.{List, [], ◌∷◌, map}
use native.Mathlib.Omega.{arith}
use Rattle.record.specs.declared.groups.Limits.{Limits}
use Rattle.overdue.specs.Overdue.{step_by}
use Rattle.overdue.specs.declared.step.Sent.{Sent}
use Rattle.overdue.specs.declared.step.Walk.{Walk}
use Rattle.timeouts_lent.specs.Walking.{flag_of, byte_of, read_of, written_of, command_of, marked, Walked, headed, walked_run, Walks}
use Rattle.timeouts_lent.specs.Stepped.{lent_as, stepped}
use Rattle.timeouts_lent.specs.declared.Awaiting.{Awaiting}
use Rattle.timeouts_lent.specs.declared.Numbers.{Numbers}

flag_read : (flag : Bool) → flag_of (byte_of flag) ≡ flag
flag_read true = refl
flag_read false = refl

flag_low : (flag : Bool) → byte_of flag ≤ 1
flag_low true = omega arith
flag_low false = omega arith

pub read_written : (w : Walk) → read_of (written_of w) ≡ w
read_written w = rw (flag_read w.kept, flag_read w.back, flag_read w.over)

command_lent : (mark : ℕ) (o : Sent) → command_of (lent_as mark o) ≡ o
command_lent mark o = rw (flag_read o.packet)

-- a command with its flag as 1 or 0; one without its timeout and mark
abbrev plain : Awaiting → Awaiting
plain a = lent_as a.mark (command_of a)

abbrev fixed : Awaiting → Awaiting
fixed a = marked a 0 0

module _ (l : Limits) (clock : ℕ) where
  -- the walk on a command that is read as o, and on the rest
  abbrev read_as : Walk → Awaiting → List Awaiting → Sent → Walked
  read_as w a rest o = let r = step_by l clock w o in headed (marked a r.timeout r.mark) (walked_run l clock r.walk rest)

  pub walk_steps : (mark : ℕ) (w : Walk) (os : List Sent) → walked_run l clock w (map (lent_as mark) os) ≡ stepped l clock w os
  unfolding walked_run stepped
  walk_steps mark w [] = refl
  walk_steps mark w (o ∷ os) =
      let r = step_by l clock w o in
      ap (read_as w (lent_as mark o) (map (lent_as mark) os)) (command_lent mark o)
      ∙ ap (headed (marked (lent_as mark o) r.timeout r.mark)) (walk_steps mark r.walk os)

  run-plain : (w : Walk) (ys : List Awaiting)
      → walked_run l clock w (map plain ys) ≡ record { walk = (walked_run l clock w ys).walk; run = map plain (walked_run l clock w ys).run }
  unfolding walked_run
  run-plain w [] = refl
  run-plain w (a ∷ ys) =
      let r = step_by l clock w (command_of a) in
      ap (read_as w (plain a) (map plain ys)) (command_lent a.mark (command_of a))
      ∙ ap (headed (marked (plain a) r.timeout r.mark)) (run-plain r.walk ys)

  run-fixed : (w : Walk) (ys : List Awaiting) → map fixed (walked_run l clock w ys).run ≡ map fixed ys
  unfolding walked_run
  run-fixed w [] = refl
  run-fixed w (a ∷ ys) = rw (run-fixed (step_by l clock w (command_of a)).walk ys)

  -- flags as 1 or 0: numbers and run are those of the step alone
  pub walks_stepped : (mark : ℕ) (w : Walk) (os : List Sent) (r : Numbers) (after : List Awaiting)
      → Walks l clock (written_of w) (map (lent_as mark) os) r after → (r ≡ written_of (stepped l clock w os).walk) × (after ≡ (stepped l clock w os).run)
  walks_stepped mark w os r after h =
      let e = ap (λ (v : Walk). walked_run l clock v (map (lent_as mark) os)) (read_written w) ∙ walk_steps mark w os in
      (h.walk ∙ ap (λ (m : Walked). written_of m.walk) e, h.run ∙ ap (λ (m : Walked). m.run) e)

  module _ (n r : Numbers) (before after : List Awaiting) (h : Walks l clock n before r after) where
    -- any byte but 0 is as 1: the same numbers, and the same run but for that byte
    pub walks_plain : Walks l clock (written_of (read_of n)) (map plain before) r (map plain after)
    walks_plain =
        record {
          walk = rw (read_written (read_of n), run-plain (read_of n) before) h.walk;
          run = rw (read_written (read_of n), run-plain (read_of n) before) (ap (map plain) h.run);
        }

    pub flags_back : (r.kept ≤ 1) × ((r.back ≤ 1) × (r.over ≤ 1))
    flags_back =
        let w = (walked_run l clock (read_of n) before).walk in rw h.walk (flag_low w.kept, (flag_low w.back, flag_low w.over))

    -- of a command the timeout and the mark alone change: its packet's byte comes back as it was lent
    pub walks_fixed : map fixed after ≡ map fixed before
    walks_fixed = ap (map fixed) h.run ∙ run-fixed (read_of n) before
