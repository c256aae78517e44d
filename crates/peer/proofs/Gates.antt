-- The gate's one answer settles the first two tests, so that a call behind it is refused or goes on as the gate says. Every call uses these.
-- The argument: the gate's answer is the rule's own, by the contract of `ask`; by cases.
use mathlib.Core.Path.{◌≡◌, refl, ap, sym, ◌∙◌}
use mathlib.Core.Bool.{Bool, true, false}
use Prim.Native.Nat.{ℕ}
use native.Mathlib.Omega.{arith}
use Rattle.std.specs.Prelude.{⊤, Result, Ok, Err, IsErrAnd}
use Rattle.std.proofs.lemmas.Result.{err_from_is_err_and}
use Rattle.numbers.specs.Answers.{Answer, refused}
use Rattle.peer.specs.Damage.{sound}
use Rattle.peer.specs.Outcome.{Outcome, Came, unchanged}
use Rattle.numbers.proofs.Settled.{refused_not_done}
use Rattle.numbers.specs.declared.refusals.Refusal.{Refusal}
use Rattle.peer.specs.Gate.{fits, gate_of, then, behind, gated}
use Rattle.peer.specs.declared.settings.Settings.{Settings}
use Rattle.peer.specs.declared.Peer.{Peer}
use Rattle.peer.specs.declared.gate.Lent.{Lent}

-- tells an open gate from a shut one
abbrev pub openness : Result ⊤ Refusal → ℕ
openness (Ok _) = 1
openness (Err why) = 0

-- a gate on settings and record is open where both are well
pub sound_open : (f w : Bool) → gate_of f w ≡ Ok tt → w ≡ true
sound_open true true e = refl
sound_open true false e = absurd (omega (arith, ap openness e))
sound_open false w e = absurd (omega (arith, ap openness e))

-- what a `?` returns: `From` of a type to itself keeps the error
pub passed_on : {T : Type 0} (r : Result T Refusal) (why : Refusal) → IsErrAnd r (λ e. e ≡ why) → r ≡ Err why
passed_on r why left = let (w, is, same) = err_from_is_err_and r left in is ∙ ap Err same

-- ---- what is behind any gate
module _ {A : Type 0} (g : Result ⊤ Refusal) (x : A) (rest : Outcome A) where
  -- a property that refusals and the rest have
  pub behind_has : (P : Outcome A → Type 0) → ((why : Refusal) → P (unchanged why x)) → (g ≡ Ok tt → P rest) → P (behind g x rest)
  behind_has P shut rest_has = go g refl
    where
      go : (h : Result ⊤ Refusal) → g ≡ h → P (behind h x rest)
      go (Ok _) e = rest_has e
      go (Err why) e = shut why

  pub behind_shut : (why : Refusal) → g ≡ Err why → behind g x rest ≡ unchanged why x
  behind_shut why e = ap (λ (h : Result ⊤ Refusal). behind h x rest) e

  pub behind_open : g ≡ Ok tt → behind g x rest ≡ rest
  behind_open e = ap (λ (h : Result ⊤ Refusal). behind h x rest) e

  -- what is done has passed
  pub behind_done : (behind g x rest).answer.number ≡ 0 → g ≡ Ok tt
  behind_done = go g
    where
      go : (h : Result ⊤ Refusal) → (behind h x rest).answer.number ≡ 0 → h ≡ Ok tt
      go (Ok _) e = refl
      go (Err why) e = absurd (refused_not_done why e)

pub then-behind : {A : Type 0} (g h : Result ⊤ Refusal) (x : A) (rest : Outcome A) → behind (then g h) x rest ≡ behind g x (behind h x rest)
then-behind (Ok _) h x rest = refl
then-behind (Err why) h x rest = refl

-- ---- the gate of every call: what it answered, for the settings, for what is lent and for the record
pub record AtGate (s : Settings) (lent : Lent) (p : Peer) : Type 0 where
  pub gate : Result ⊤ Refusal
  pub is : gate ≡ gate_of (fits s lent) (sound p)

module _ {s : Settings} {lent : Lent} {p : Peer} (g : AtGate s lent p) where
  pub open_sound : g.gate ≡ Ok tt → sound p ≡ true
  open_sound q = sound_open (fits s lent) (sound p) (sym g.is ∙ q)

  -- a reply of any kind
  module _ {A R : Type 0} (x : A) (rest : Outcome A) (answer_of : R → Answer) (r : R) where
    pub came_shut : (why : Refusal) → answer_of r ≡ refused why → g.gate ≡ Err why → Came answer_of (gated s lent p x rest) r x
    came_shut why e q =
        rw (behind_shut (gate_of (fits s lent) (sound p)) x rest why (sym g.is ∙ q)) (record { answer = e; after = refl })

    pub came_open : (y : A) → g.gate ≡ Ok tt → Came answer_of rest r y → Came answer_of (gated s lent p x rest) r y
    came_open y q c = rw (behind_open (gate_of (fits s lent) (sound p)) x rest (sym g.is ∙ q)) c
