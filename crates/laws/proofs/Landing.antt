-- What an unsequenced arrival does to the window, in one law for all inputs (`unsequenced_lands`); how far the base then moved; and that a group
-- which the window passes over changes nothing at all. The argument: one look at each of the window's four tests, and at each fate of one it takes.
use Prim.Native.Nat.{ℕ, ◌*◌, ◌%◌, ◌<◌}
use mathlib.Core.Path.{◌≡◌, refl, ap}
use mathlib.Core.Bool.{Bool, true, false}
use mathlib.Core.List.{List, [], ◌∷◌}
use lib.Dec.{eqb}
use lib.ListN.{length}
use Rattle.numbers.specs.Pick.{pick}
use Rattle.numbers.specs.Modulo.{sum}
use Rattle.numbers.specs.Limits.{window_size, free_windows}
use Rattle.numbers.specs.Answers.{Answer, done, refused}
use Rattle.numbers.specs.declared.counters.Group.{Group}
use Rattle.numbers.specs.declared.refusals.Refusal.TheVariants.{NotStored}
use Rattle.window.specs.Window.{distant, first, cleared, marked, marking, base_after, words_after, answer_after, windows_moved}
use Rattle.window.proofs.Moves.{taken_moved, taken_by}
use Rattle.record.specs.declared.groups.Unsequenced.{Unsequenced}
use Rattle.peer.specs.Damage.{sound}
use Rattle.peer.specs.Gate.{fits, gate_of}
use Rattle.peer.specs.Outcome.{State, Outcome}
use Rattle.peer.specs.declared.settings.Settings.{Settings}
use Rattle.peer.specs.declared.gate.Lent.TheVariants.{Store}
use Rattle.peer.proofs.Gates.{behind_has}
use Rattle.arrival.proofs.Admitted.{not_passed, not_refused}
use Rattle.arrival.specs.Arrivals.{passed_over, stored, answer_of, arrival_gate, room_of, reply_of}
use Rattle.arrival.specs.Window.{taken_at, passed_by, judge_window}
use Rattle.arrival.specs.declared.Arrival.{Arrival}
use Rattle.arrival.specs.declared.Fate.{Fate}
use Rattle.arrival.specs.declared.Fate.TheVariants as fate
use Rattle.arrival.specs.declared.Judged.{Judged}
use Rattle.arrive_unsequenced.specs.Calls.{send_unsequenced, judged_on, unsequenced_after, unsequenced_sound, arrives_unsequenced}
use Rattle.laws.specs.Landing.{Took, Lands, stays, takes, delivers}

-- the window's tests in their order
module _ (g : Unsequenced) (group : Group) (room : Fate) where
  abbrev far : Bool
  far = distant g.incoming.0 group.0

  abbrev here : Bool
  here = eqb (first group.0) g.incoming.0

  abbrev again : Bool
  again = marked g.words group.0

  pub judged_has : (P : Judged → Type 0)
      → (far ≡ true → P (passed_by g))
      → (far ≡ false → here ≡ false → P (taken_at room g group (record { 0 = first group.0 }) cleared))
      → (far ≡ false → here ≡ true → again ≡ true → P (passed_by g))
      → (far ≡ false → here ≡ true → again ≡ false → P (taken_at room g group g.incoming g.words))
      → P (judge_window g group room)
  judged_has P too elsewhere marks fresh = go far refl here refl again refl
    where
      go : (a : Bool) → far ≡ a → (b : Bool) → here ≡ b → (c : Bool) → again ≡ c
          → P (pick a (passed_by g) (pick b (pick c (passed_by g) (taken_at room g group g.incoming g.words))
          (taken_at room g group (record { 0 = first group.0 }) cleared)))
      go true e b f c h = too e
      go false e true f true h = marks e f h
      go false e true f false h = fresh e f h
      go false e false f c h = elsewhere e f

module _ (s : Settings) (a : Arrival) (group : Group) (datagram : List ℕ) (x : State) where
  abbrev before : Unsequenced
  before = x.peer.unsequenced

  -- what a judgement comes to
  abbrev comes : Judged → Outcome State
  comes j = record { answer = answer_of (reply_of j.fate); after = unsequenced_after j.fate j.unsequenced a datagram x }

  abbrev lands : Outcome State → Type 0
  lands = Lands before group.0

  same : (w : Answer) → (w ≡ stored → ⊥) → lands (record { answer = w; after = x })
  same w not = stays refl refl not

  -- a group that the window takes, at its base and words
  taken_lands : (base : Group) (words : List ℕ) → answer_after before.incoming.0 before.words group.0 ≡ done (1 ∷ [])
      → base.0 ≡ base_after before.incoming.0 before.words group.0 → words ≡ words_after before.incoming.0 before.words group.0
      → (room : Fate) → lands (comes (taken_at room before group base words))
  taken_lands base words t b w fate.Passed =
      takes true (record { taken = t; base = b; words = ap (λ (ws : List ℕ). marking ws group.0) w }) not_passed
  taken_lands base words t b w fate.NoRoom = takes false (record { taken = t; base = b; words = w }) (not_refused NotStored)
  taken_lands base words t b w (fate.Stored n) =
      delivers (record { taken = t; base = b; words = ap (λ (ws : List ℕ). marking ws group.0) w }) refl

  judged_lands : lands (comes (judged_on s group x.peer))
  judged_lands =
      judged_has before group (room_of s x.peer) (λ (j : Judged). lands (comes j))
      (λ e. same passed_over not_passed)
      (λ e f. taken_lands (record { 0 = first group.0 }) cleared (simp (e, f)) (simp (e, f)) (simp (e, f)) (room_of s x.peer))
      (λ e f h. same passed_over not_passed)
      (λ e f h. taken_lands before.incoming before.words (simp (e, f, h)) (simp (e, f, h)) (simp (e, f, h)) (room_of s x.peer))

  pub unsequenced_lands : lands (arrives_unsequenced s a group datagram x)
  unsequenced_lands =
      behind_has (gate_of (fits s (Store (length x.store))) (sound x.peer)) x (unsequenced_sound s a group datagram x) lands
      (λ why. same (refused why) (not_refused why))
      (λ e. behind_has (arrival_gate send_unsequenced a s x.peer.standing (length datagram)) x _ lands
      (λ why. same (refused why) (not_refused why)) (λ own. judged_lands))

  -- passed over by the window: nothing changed, record and store
  pub unsequenced_quiet : (judge_window before group (room_of s x.peer) ≡ passed_by before) → (arrives_unsequenced s a group datagram x).after ≡ x
  unsequenced_quiet e =
      behind_has (gate_of (fits s (Store (length x.store))) (sound x.peer)) x (unsequenced_sound s a group datagram x)
      (λ (o : Outcome State). o.after ≡ x) (λ why. refl)
      (λ g. behind_has (arrival_gate send_unsequenced a s x.peer.standing (length datagram)) x _ (λ (o : Outcome State). o.after ≡ x)
      (λ why. refl) (λ own. ap (λ (j : Judged). (comes j).after) e))

  pub distant_quiet : distant before.incoming.0 group.0 ≡ true → (arrives_unsequenced s a group datagram x).after ≡ x
  distant_quiet e = unsequenced_quiet (rw e)

  pub marked_quiet : distant before.incoming.0 group.0 ≡ false → eqb (first group.0) before.incoming.0 ≡ true
      → marked before.words group.0 ≡ true → (arrives_unsequenced s a group datagram x).after ≡ x
  marked_quiet e f h = unsequenced_quiet (rw (e, f, h))

-- how far the base moved where a group was taken, from a base that is the first group of a window
module _ (before after : Unsequenced) (g : ℕ) (marks : Bool) (t : Took before after g marks)
    (even : before.incoming.0 % window_size ≡ 0) (small : before.incoming.0 < 65536) (fits : g < 65536) where
  pub took_moved : windows_moved before.incoming.0 after.incoming.0 < free_windows
  took_moved = rw t.base (taken_moved before.incoming.0 before.words g t.taken even small fits)

  pub took_by : after.incoming.0 ≡ sum 16 before.incoming.0 (window_size * windows_moved before.incoming.0 after.incoming.0)
  took_by = rw t.base (taken_by before.incoming.0 before.words g t.taken even small fits)
