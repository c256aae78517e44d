-- A check's loop: after j of the sent commands, what the walk makes of all of them is what it makes of those left, on the record as stored so far,
-- with the marks so far before. The argument: a turn is the definition's; at the end none is left.
use Prim.Native.Nat.{ℕ, ◌+◌, ◌<◌}
use mathlib.Core.Path.{◌≡◌, ap, sym, ◌∙◌}
use mathlib.Core.List.{List, [], ◌∷◌, ◌++◌, append_assoc, append-nil}
use native.Mathlib.Numerals.{add-one}
use native.Mathlib.Omega.{arith}
use lib.ListN.{length, take, drop, get_or, set, length-set}
use lib.Seq.{take-suc-set}
use Rattle.record.specs.Lists.{outgoing}
use Rattle.record.specs.Fresh.{no_outgoing}
use Rattle.record.specs.declared.groups.Limits.{Limits}
use Rattle.peer.specs.Updates.{with_outgoing}
use Rattle.peer.specs.declared.Peer.{Peer}
use Rattle.overdue.specs.Walking.{Walked, walked, marked_by, turn_by}
use Rattle.overdue.specs.declared.step.Walk.{Walk}
use Rattle.overdue.specs.Walking.{Turned}

-- what is left of a walk, with the marks so far before
abbrev pub onward : List ℕ → Walked → Walked
onward ms w = record { walk = w.walk; marks = ms ++ w.marks; slots = w.slots }

onward_marked : (ms : List ℕ) (m : ℕ) (w : Walked) → onward ms (marked_by m w) ≡ onward (ms ++ (m ∷ [])) w
onward_marked ms m w = ap (λ (l : List ℕ). record { walk = w.walk; marks = l; slots = w.slots }) (sym (append_assoc ms (m ∷ []) w.marks))

-- after j of the items: what the walk makes of all of them is what it makes of those left
pub record Going (limits : Limits) (clock : ℕ) (items : List ℕ) (w₀ : Walk) (p₀ p : Peer) (w : Walk) (marks : List ℕ) (j : ℕ) : Type 0 where
  pub sized : length marks ≡ outgoing
  pub same : p ≡ with_outgoing p₀ p.outgoing
  pub goes : walked limits clock items w₀ p₀.outgoing ≡ onward (take j marks) (walked limits clock (drop j items) w p.outgoing)

module _ {limits : Limits} {clock : ℕ} {items : List ℕ} {w₀ : Walk} {p₀ p : Peer} {w : Walk} {marks : List ℕ} {j : ℕ}
    (g : Going limits clock items w₀ p₀ p w marks j) where
  -- s is the next of them
  pub going_turn : (s : ℕ) → drop j items ≡ s ∷ drop (j + 1) items → j < outgoing → (t : Turned) → t ≡ turn_by limits clock w (get_or p.outgoing s no_outgoing)
      → Going limits clock items w₀ p₀ (with_outgoing p (set p.outgoing s t.slot)) t.walk (set marks j t.mark) (j + 1)
  unfolding walked
  going_turn s split high t te =
      let rest = drop (j + 1) items in
      let after = set p.outgoing s t.slot in
      let long : j < length marks = omega (arith, g.sized) in
      let laid : take (j + 1) (set marks j t.mark) ≡ take j marks ++ (t.mark ∷ []) = rw add-one (take-suc-set marks j t.mark long) in
      record {
        sized = length-set marks j t.mark ∙ g.sized;
        same = ap (λ (q : Peer). with_outgoing q after) g.same;
        goes =
            g.goes
            ∙ ap (λ (xs : List ℕ). onward (take j marks) (walked limits clock xs w p.outgoing)) split
            ∙ ap (λ (t : Turned). onward (take j marks) (marked_by t.mark (walked limits clock rest t.walk (set p.outgoing s t.slot)))) (sym te)
            ∙ onward_marked (take j marks) t.mark (walked limits clock rest t.walk after)
            ∙ ap (λ (ms : List ℕ). onward ms (walked limits clock rest t.walk after)) (sym laid);
      }

  pub going_end : drop j items ≡ [] → walked limits clock items w₀ p₀.outgoing ≡ record { walk = w; marks = take j marks; slots = p.outgoing }
  unfolding walked
  going_end h =
      g.goes
      ∙ ap (λ (xs : List ℕ). onward (take j marks) (walked limits clock xs w p.outgoing)) h
      ∙ ap (λ (ms : List ℕ). record { walk = w; marks = ms; slots = p.outgoing }) (append-nil (take j marks))
