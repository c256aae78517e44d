-- Where no command went back every mark says that its slot stays, and the lists are what they were.
-- The argument: a walk that has sent one back says so to its end, so none of its steps did; by induction on the slots.
use Rattle.std.proofs.Common.{◌≡◌, ℕ, ◌+◌, ◌≤◌, Bool, true, false, eqb, leb, List, [], ◌∷◌, ◌++◌, length, get_or, set, refl, ap, ◌∙◌}
use Rattle.numbers.specs.Pick.{pick}
use Rattle.record.specs.Lists.{outgoing, out_items, out_keep}
use Rattle.record.specs.declared.outgoing.OutList.{OutList}
use Rattle.record.proofs.Views.{out_keep_items}
use Rattle.record.specs.Fresh.{no_outgoing}
use Rattle.record.specs.declared.groups.Limits.{Limits}
use Rattle.record.specs.declared.groups.Lists.{Lists}
use Rattle.record.specs.declared.groups.Outgoing.{Outgoing}
use Rattle.overdue.specs.Overdue.{stays, back_outgoing, back_reliable, is_due, earliest_by, is_given_up, next_by, kept_in, over_in, goes_back, stays_in, step_by}
use Rattle.overdue.specs.Walking.{sent_of, turn_by, walked, bearing, ahead, lists_by}
use Rattle.overdue.specs.declared.step.Sent.{Sent}
use Rattle.overdue.specs.declared.step.Walk.{Walk}
use Rattle.overdue.specs.declared.step.After.{After}

module _ (l : Limits) (clock : ℕ) where
  step_stays : (w : Walk) (o : Sent) → (step_by l clock w o).walk.back ≡ false → (w.back ≡ false) × ((step_by l clock w o).mark ≡ stays)
  step_stays w o = go w.over (is_due clock o) (is_given_up l clock earliest o.attempts)
    where
      earliest : ℕ
      earliest = earliest_by w.earliest o.sent

      next : ℕ
      next = next_by w o

      made : Bool → Bool → Bool → After
      made a b c = pick a (stays_in w o) (pick b (pick c (stays_in (over_in w next earliest) o) (goes_back w next earliest o)) (stays_in (kept_in w next) o))

      go : (a b c : Bool) → (made a b c).walk.back ≡ false → (w.back ≡ false) × ((made a b c).mark ≡ stays)
      go true b c h = (h, refl)
      go false true true h = (h, refl)
      go false true false h = (cc, cc)
      go false false c h = (h, refl)

  pub walked-stays : (ss : List ℕ) (w : Walk) (slots : List Outgoing) → (walked l clock ss w slots).walk.back ≡ false
      → (w.back ≡ false) × ((mark : ℕ) → bearing mark (walked l clock ss w slots).marks ss ≡ pick (eqb stays mark) ss [])
  unfolding walked bearing
  walked-stays [] w slots h = (h, λ mark. none (eqb stays mark))
    where
      none : (b : Bool) → ◌≡◌ {A = List ℕ} [] (pick b [] [])
      none true = refl
      none false = refl
  walked-stays (s ∷ ss) w slots h =
      let o = get_or slots s no_outgoing in
      let t = turn_by l clock w o in
      let rest = walked l clock ss t.walk (set slots s t.slot) in
      let r = walked-stays ss t.walk (set slots s t.slot) h in
      let k = step_stays w (sent_of o) r.0 in (
        k.0,
        λ mark.
            ap (λ (m : ℕ). pick (eqb m mark) (s ∷ bearing mark rest.marks ss) (bearing mark rest.marks ss)) k.1
            ∙ ap (λ (xs : List ℕ). pick (eqb stays mark) (s ∷ xs) xs) (r.1 mark)
            ∙ more (eqb stays mark),
      )
    where
      more : (b : Bool) → pick b (s ∷ pick b ss []) (pick b ss []) ≡ pick b (s ∷ ss) []
      more true = refl
      more false = refl

ahead_none : (l : OutList) → l.len ≤ length l.slots → ahead l [] ≡ l
ahead_none l h = ap (out_keep l) (same (leb (length {A = ℕ} [] + length (out_items l)) outgoing)) ∙ out_keep_items l h
  where
    same : (b : Bool) → pick b ([] ++ out_items l) (out_items l) ≡ out_items l
    same true = refl
    same false = refl

-- the lists of marks that all stay
pub lists_stay : (ms : List ℕ) (x : Lists) → ((mark : ℕ) → bearing mark ms (out_items x.sent) ≡ pick (eqb stays mark) (out_items x.sent) [])
    → x.sent.len ≤ length x.sent.slots → x.send_reliable.len ≤ length x.send_reliable.slots → x.outgoing.len ≤ length x.outgoing.slots
    → lists_by ms x ≡ x
lists_stay ms x b s r o =
    ap (λ (l : OutList). record { sent = l; send_reliable = ahead x.send_reliable (bearing back_reliable ms items); outgoing = ahead x.outgoing (bearing back_outgoing ms items); dispatched = x.dispatched })
    (ap (out_keep x.sent) (b stays) ∙ out_keep_items x.sent s)
    ∙ ap (λ (l : OutList). record { sent = x.sent; send_reliable = l; outgoing = ahead x.outgoing (bearing back_outgoing ms items); dispatched = x.dispatched })
    (ap (ahead x.send_reliable) (b back_reliable) ∙ ahead_none x.send_reliable r)
    ∙ ap (λ (l : OutList). record { sent = x.sent; send_reliable = x.send_reliable; outgoing = l; dispatched = x.dispatched })
    (ap (ahead x.outgoing) (b back_outgoing) ∙ ahead_none x.outgoing o)
  where
    items : List ℕ
    items = out_items x.sent
