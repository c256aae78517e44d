-- The walk may begin behind the commands at the head of the sent list that are not due: their marks say that they stay, their slots and the numbers are as
-- they were, but that some were kept. The argument: by induction on the slots, each step by its case.
use Prim.Native.Nat.{ℕ, zero, suc, ◌+◌, ◌≤◌, ◌<◌}
use mathlib.Core.Path.{◌≡◌, refl, ap, sym, ◌∙◌}
use mathlib.Core.Bool.{Bool, true, false}
use mathlib.Core.List.{List, [], ◌∷◌}
use native.Mathlib.Numerals.{add-one}
use native.Mathlib.Omega.{arith}
use lib.Dec.{ltb}
use lib.ListN.{length, take, drop, get_or, set, replicate, length-replicate, drop_of_length-le}
use lib.Seq.{drop-cons, set-get_or}
use borrow.Author.Tests.{lt-ltb}
use Rattle.numbers.specs.Pick.{pick}
use Rattle.record.specs.Lists.{outgoing, out_items}
use Rattle.record.specs.Fresh.{no_outgoing}
use Rattle.record.specs.Updates.{with_timeout}
use Rattle.record.specs.declared.groups.Limits.{Limits}
use Rattle.record.specs.declared.groups.Outgoing.{Outgoing}
use Rattle.peer.specs.declared.Peer.{Peer}
use Rattle.overdue.specs.Overdue.{stays, is_due, due_by, kept_in, stays_in}
use Rattle.overdue.specs.Walking.{walked, marked_by, at_entry, sent_of}
use Rattle.overdue.specs.declared.step.Walk.{Walk}
use Rattle.timeouts.specs.CodeEarly.{early, begun}
use Rattle.timeouts.proofs.Walking.{Going, onward}

module _ (clock : ℕ) (slots : List Outgoing) where
  abbrev due_at : ℕ → Bool
  due_at s = is_due clock (sent_of (get_or slots s no_outgoing))

  pub early_fits : (ss : List ℕ) → early clock slots ss ≤ length ss
  unfolding early
  early_fits [] = omega arith
  early_fits (s ∷ ss) = go (due_at s) (early_fits ss)
    where
      go : (b : Bool) → early clock slots ss ≤ length ss → pick b 0 (suc (early clock slots ss)) ≤ length (s ∷ ss)
      go true h = omega arith
      go false h = omega arith

  pub early_end : (ss : List ℕ) (k : ℕ) → length ss ≤ k → early clock slots (drop k ss) ≡ 0
  unfolding early
  early_end ss k h = ap (early clock slots) (drop_of_length-le ss {i = k} h)

  -- the search from place k on
  module _ (ss : List ℕ) (k s : ℕ) (h : k < length ss) (se : s ≡ get_or ss k 0) where
    from : early clock slots (drop k ss) ≡ pick (due_at s) 0 (suc (early clock slots (drop (k + 1) ss)))
    unfolding early
    from =
        let split : drop k ss ≡ s ∷ drop (k + 1) ss = rw (se, add-one k) (drop-cons ss k 0 h) in
        ap (early clock slots) split

    pub early_here : due_at s ≡ true → early clock slots (drop k ss) ≡ 0
    early_here e = from ∙ ap (λ (b : Bool). pick b 0 (suc (early clock slots (drop (k + 1) ss)))) e

    pub early_on : due_at s ≡ false → early clock slots (drop k ss) ≡ suc (early clock slots (drop (k + 1) ss))
    early_on e = from ∙ ap (λ (b : Bool). pick b 0 (suc (early clock slots (drop (k + 1) ss)))) e

  module _ (l : Limits) (earliest next lost transit : ℕ) where
    -- before any went back: the numbers, and whether some were kept
    abbrev having : Bool → Walk
    having kept = record { earliest = earliest; next = next; lost = lost; transit = transit; kept = kept; back = false; over = false }

    -- one that is not due
    past : (kept : Bool) (s : ℕ) (ss : List ℕ) → due_at s ≡ false
        → walked l clock (s ∷ ss) (having kept) slots ≡ marked_by stays (walked l clock ss (having true) slots)
    unfolding walked
    past kept s ss e =
        let o = get_or slots s no_outgoing in
        ap (λ (b : Bool).
        let r = pick b (due_by l clock (having kept) (sent_of o)) (stays_in (kept_in (having kept) next) (sent_of o)) in
        marked_by r.mark (walked l clock ss r.walk (set slots s (with_timeout o r.timeout)))) e
        ∙ ap (λ (xs : List Outgoing). marked_by stays (walked l clock ss (having true) xs)) (set-get_or slots s no_outgoing)

    either : (b : Bool) → pick b true true ≡ true
    either true = refl
    either false = refl

    -- what the walk makes of all is what it makes of those from k on
    abbrev Behind : Bool → List ℕ → ℕ → Type 0
    Behind kept ss k =
        walked l clock ss (having kept) slots ≡ onward (replicate k stays) (walked l clock (drop k ss) (having (pick (ltb 0 k) true kept)) slots)

    early_behind : (kept : Bool) (ss : List ℕ) → Behind kept ss (early clock slots ss)
    unfolding early
    early_behind kept [] = refl
    early_behind kept (s ∷ ss) = go (due_at s) refl (early_behind true ss)
      where
        go : (b : Bool) → due_at s ≡ b → Behind true ss (early clock slots ss) → Behind kept (s ∷ ss) (pick b 0 (suc (early clock slots ss)))
        go true e h = refl
        go false e h =
            let k = early clock slots ss in
            past kept s ss e
            ∙ ap (marked_by stays) h
            ∙ ap (λ (x : Bool). marked_by stays (onward (replicate k stays) (walked l clock (drop k ss) (having x) slots)))
            (either (ltb 0 k) ∙ sym (ap (λ (x : Bool). pick x true kept) (lt-ltb 0 (suc k) (omega arith))))

take-replicate : (k n : ℕ) → k ≤ n → take k (replicate n stays) ≡ replicate k stays
take-replicate zero n h = refl
take-replicate (suc k) zero h = absurd (omega arith)
take-replicate (suc k) (suc n) h = ap (λ (xs : List ℕ). stays ∷ xs) (take-replicate k n (omega arith))

kept_any : (b : Bool) → pick b true false ≡ b
kept_any true = refl
kept_any false = refl

-- the walk over the record p behind k, which are not due
pub going_begun : (l : Limits) (clock : ℕ) (p : Peer) (marks : List ℕ) (k : ℕ) (w : Walk) → length (out_items p.lists.sent) ≤ outgoing
    → marks ≡ replicate outgoing stays → k ≡ early clock p.outgoing (out_items p.lists.sent) → w ≡ begun k (at_entry p.times p.loss p.flow)
    → Going l clock (out_items p.lists.sent) (at_entry p.times p.loss p.flow) p p w marks k
going_begun l clock p marks k w high me ke we =
    let items = out_items p.lists.sent in
    let start = at_entry p.times p.loss p.flow in
    let e = early clock p.outgoing items in
    let low : k ≤ outgoing = omega (arith, ke, high, early_fits clock p.outgoing items) in
    let laid : take k marks ≡ replicate k stays = ap (take k) me ∙ take-replicate k outgoing low in
    record {
      sized = ap length me ∙ length-replicate outgoing stays;
      same = refl;
      goes =
          early_behind clock p.outgoing l start.earliest start.next start.lost start.transit false items
          ∙ ap (λ (b : Bool). onward (replicate e stays) (walked l clock (drop e items) (having clock p.outgoing l start.earliest start.next start.lost start.transit b) p.outgoing)) (kept_any (ltb 0 e))
          ∙ ap (λ (x : ℕ). onward (replicate x stays) (walked l clock (drop x items) (begun x start) p.outgoing)) (sym ke)
          ∙ ap (λ (ms : List ℕ). onward ms (walked l clock (drop k items) (begun k start) p.outgoing)) (sym laid)
          ∙ ap (λ (x : Walk). onward (take k marks) (walked l clock (drop k items) x p.outgoing)) (sym we);
    }
