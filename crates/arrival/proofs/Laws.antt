-- A group against the window, on the groups: what `window` answers is the rule's case; and what is stored is stored in a free slot.
-- The argument: by the window's tests in their order; an answer tells a verdict that takes the group from the others.
use Rattle.std.specs.Prelude.{None, Option, Some}
use Rattle.std.proofs.Common.{◌≡◌, ℕ, Bool, true, false, eqb, leb, List, [], ◌∷◌, get_or, sym, refl, ap, ◌∙◌, arith}
use Rattle.numbers.specs.Pick.{pick}
use Rattle.numbers.specs.Answers.{Answer, done, numbers_of}
use Rattle.numbers.specs.declared.counters.Group.{Group}
use Rattle.window.specs.Window.{distant, first, marked, cleared, answer_of, Judges}
use Rattle.window.specs.declared.Judged as window
use Rattle.window.specs.declared.Verdict.{Verdict}
use Rattle.window.specs.declared.Verdict.TheVariants.{Distant, Marked, Taken}
use Rattle.record.specs.declared.groups.Unsequenced.{Unsequenced}
use Rattle.peer.specs.States.{disconnect_later}
use Rattle.peer.specs.declared.settings.Settings.{Settings}
use Rattle.arrival.specs.Arrivals.{in_slot, room_for}
use Rattle.arrival.specs.Window.{taken_at, passed_by, judge_window}
use Rattle.arrival.specs.declared.Fate.{Fate}
use Rattle.arrival.specs.declared.Fate.TheVariants as fate
use Rattle.arrival.specs.declared.Judged.{Judged}

-- a fate that leaves record and store
abbrev pub Leaves : Fate → Type 0
Leaves f = (n : ℕ) → f ≡ fate.Stored n → ⊥

-- 1 where the group is taken
abbrev tells : Answer → ℕ
tells a = get_or (numbers_of a) 0 0

-- every other verdict passes it over
pub passes : (v : Verdict) → (v ≡ Taken → ⊥) → tells (answer_of v) ≡ 0
passes Distant k = refl
passes Marked k = refl
passes Taken k = absurd (k refl)

-- w is what the window answered
module _ (g : Unsequenced) (group : Group) (room : Fate) (w : window.Judged) (j : Judges g.incoming g.words group w) where
  abbrev far : Bool
  far = distant g.incoming.0 group.0

  abbrev here : Bool
  here = eqb (first group.0) g.incoming.0

  abbrev again : Bool
  again = marked g.words group.0

  -- r is what the code made of it
  pub judged_taken : w.verdict ≡ Taken → (r : Judged) → r ≡ taken_at room g group w.base w.words → r ≡ judge_window g group room
  judged_taken t r e = e ∙ go far here again j.base j.words (sym (ap answer_of t) ∙ j.answer)
    where
      taken : (b : Group) (ws : List ℕ) → w.base.0 ≡ b.0 → w.words ≡ ws → taken_at room g group w.base w.words ≡ taken_at room g group b ws
      taken b ws p q =
          ap (λ (x : ℕ). taken_at room g group (record { 0 = x }) w.words) p ∙ ap (taken_at room g group b) q

      go : (far here again : Bool) → w.base.0 ≡ pick far g.incoming.0 (pick here (pick again g.incoming.0 g.incoming.0) (first group.0))
          → w.words ≡ pick far g.words (pick here (pick again g.words g.words) cleared)
          → done (1 ∷ []) ≡ pick far (done (0 ∷ 0 ∷ [])) (pick here (pick again (done (0 ∷ 1 ∷ [])) (done (1 ∷ []))) (done (1 ∷ [])))
          → taken_at room g group w.base w.words
          ≡ pick far (passed_by g)
          (pick here (pick again (passed_by g) (taken_at room g group g.incoming g.words))
          (taken_at room g group (record { 0 = first group.0 }) cleared))
      go true h m p q a = absurd (omega (arith, ap tells a))
      go false true true p q a = absurd (omega (arith, ap tells a))
      go false true false p q a = taken g.incoming g.words p q
      go false false m p q a = taken (record { 0 = first group.0 }) cleared p q

  pub judged_passed : (w.verdict ≡ Taken → ⊥) → passed_by g ≡ judge_window g group room
  judged_passed k = go far here again (sym (ap tells j.answer) ∙ passes w.verdict k)
    where
      go : (far here again : Bool)
          → tells (pick far (done (0 ∷ 0 ∷ [])) (pick here (pick again (done (0 ∷ 1 ∷ [])) (done (1 ∷ []))) (done (1 ∷ [])))) ≡ 0
          → passed_by g
          ≡ pick far (passed_by g)
          (pick here (pick again (passed_by g) (taken_at room g group g.incoming g.words))
          (taken_at room g group (record { 0 = first group.0 }) cleared))
      go true h m a = refl
      go false true true a = refl
      go false true false a = absurd (omega (arith, a))
      go false false m a = absurd (omega (arith, a))

-- ---- what is stored has room, and room is the lowest free slot
module _ (g : Unsequenced) (group : Group) where
  taken_stored : (room : Fate) (base : Group) (words : List ℕ) (n : ℕ) → (taken_at room g group base words).fate ≡ fate.Stored n → room ≡ fate.Stored n
  taken_stored fate.Passed base words n e = e
  taken_stored fate.NoRoom base words n e = e
  taken_stored (fate.Stored s) base words n e = e

  pub judged_stored : (room : Fate) (n : ℕ) → (judge_window g group room).fate ≡ fate.Stored n → room ≡ fate.Stored n
  judged_stored room n = go (distant g.incoming.0 group.0) (eqb (first group.0) g.incoming.0) (marked g.words group.0)
    where
      go : (far here again : Bool)
          → (pick far (passed_by g)
          (pick here (pick again (passed_by g) (taken_at room g group g.incoming g.words))
          (taken_at room g group (record { 0 = first group.0 }) cleared))).fate ≡ fate.Stored n
          → room ≡ fate.Stored n
      go true h m e = let z : ◌≡◌ {A = ℕ} 0 1 = cc in absurd (omega arith)
      go false true true e = let z : ◌≡◌ {A = ℕ} 0 1 = cc in absurd (omega arith)
      go false true false e = taken_stored room g.incoming g.words n e
      go false false m e = taken_stored room (record { 0 = first group.0 }) cleared n e

in_slot_lem : (f : Option ℕ) (n : ℕ) → in_slot f ≡ fate.Stored n → f ≡ Some n
in_slot_lem (Some s) n e = let z : s ≡ n = cc in ap Some z
in_slot_lem None n e = let z : ◌≡◌ {A = ℕ} 0 1 = cc in absurd (omega arith)

pub room_stored : (s : Settings) (state total : ℕ) (free : Option ℕ) (n : ℕ) → room_for s state total free ≡ fate.Stored n → free ≡ Some n
room_stored s state total free n = go (eqb state disconnect_later) (leb s.waiting total)
  where
    go : (later full : Bool) → pick later fate.Passed (pick full fate.NoRoom (in_slot free)) ≡ fate.Stored n → free ≡ Some n
    go true full e = let z : ◌≡◌ {A = ℕ} 0 1 = cc in absurd (omega arith)
    go false true e = let z : ◌≡◌ {A = ℕ} 0 1 = cc in absurd (omega arith)
    go false false e = in_slot_lem free n e
