-- For functions inside the house alone: the walk goes past the commands at the head of the sent list that are not due without a step each.
-- Nothing here need be believed: the contract of `walk` is the rule's own.
use Rattle.std.specs.Prelude.{ℕ, suc, List, [], ◌∷◌, ltb, get_or}
use Rattle.numbers.specs.Pick.{pick}
use Rattle.record.specs.Fresh.{no_outgoing}
use Rattle.record.specs.declared.groups.Outgoing.{Outgoing}
use Rattle.overdue.specs.Overdue.{is_due}
use Rattle.overdue.specs.Walking.{sent_of}
use Rattle.overdue.specs.declared.step.Walk.{Walk}

-- how many at the head are not due
unfoldable pub early : ℕ → List Outgoing → List ℕ → ℕ
early clock slots [] = 0
early clock slots (s ∷ ss) = pick (is_due clock (sent_of (get_or slots s no_outgoing))) 0 (suc (early clock slots ss))

-- a walk's first numbers behind k that were kept
abbrev pub begun : ℕ → Walk → Walk
begun k w =
    record {
      earliest = w.earliest;
      next = w.next;
      lost = w.lost;
      transit = w.transit;
      kept = ltb 0 k;
      back = w.back;
      over = w.over;
    }
