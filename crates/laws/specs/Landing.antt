-- What an unsequenced arrival may do to the base and the words: leave them; or take its group, by the window's rule, marking it or not. It is
-- stored only where the group was marked.
use Rattle.std.specs.Prelude.{ℕ, ◌≡◌, Bool, true, [], ◌∷◌}
use Rattle.numbers.specs.Pick.{pick}
use Rattle.numbers.specs.Answers.{done}
use Rattle.window.specs.Window.{marking, base_after, words_after, answer_after}
use Rattle.record.specs.declared.groups.Unsequenced.{Unsequenced}
use Rattle.peer.specs.Outcome.{State, Outcome}
use Rattle.arrival.specs.Arrivals.{stored}

-- the window took group g of these groups, and then marked it or did not
pub record Took (before after : Unsequenced) (g : ℕ) (marks : Bool) : Type 0 where
  pub taken : answer_after before.incoming.0 before.words g ≡ done (1 ∷ [])
  pub base : after.incoming.0 ≡ base_after before.incoming.0 before.words g
  pub words : after.words
      ≡ let moved = words_after before.incoming.0 before.words g in pick marks (marking moved g) moved

pub data Lands (before : Unsequenced) (g : ℕ) (o : Outcome State) : Type 0 where
  stays : o.after.peer.unsequenced.incoming ≡ before.incoming → o.after.peer.unsequenced.words ≡ before.words
      → (o.answer ≡ stored → ⊥) → Lands before g o
  takes : (marks : Bool) → Took before o.after.peer.unsequenced g marks → (o.answer ≡ stored → ⊥) → Lands before g o
  delivers : Took before o.after.peer.unsequenced g true → o.answer ≡ stored → Lands before g o
