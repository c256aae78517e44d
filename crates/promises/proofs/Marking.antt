-- A near group that is not marked is stored; so an arrival that got 8 is stored once there is room; and a group of the base's window is marked exactly if
-- it was taken since the base came there. The argument: each premise opens one test; an 8 leaves the base at g's window and g unmarked; only reset and the
-- unsequenced arrival touch base and words, and what an arrival marks joins the log, on the words as they were or on cleared ones.
use Rattle.std.specs.Prelude.{None, Option, Some}
use Prim.Native.Nat.{ℕ, ◌+◌, ◌≤◌}
use mathlib.Core.Path.{◌≡◌, refl, ap, ap₂, sym, subst, ◌∙◌}
use mathlib.Core.Bool.{Bool, true, false}
use mathlib.Core.List.{List, [], ◌∷◌}
use mathlib.Core.Logic.{◌⊎◌, inr, ⊎_elim}
use native.Mathlib.Omega.{arith}
use lib.Dec.{eqb, leb}
use lib.ListN.{length, length-replicate}
use borrow.Author.Tests.{eqb-true, eqb-false, eq-eqb, ne_eqb, le-ltb, lt-leb}
use Rattle.std.specs.Prelude.{Ok, Err}
use Rattle.numbers.specs.Pick.{pick, both}
use Rattle.numbers.specs.Limits.{window_words}
use Rattle.numbers.specs.Answers.{number_of}
use Rattle.numbers.specs.declared.counters.Group.{Group}
use Rattle.numbers.specs.declared.refusals.Refusal.{Refusal}
use Rattle.numbers.specs.declared.refusals.Refusal.TheVariants.{NotReceiving, LengthTooLarge, BadCommand}
use Rattle.numbers.proofs.Settled.{refused_not_done}
use Rattle.numbers.proofs.BoolLaws.{both_false}
use Rattle.cells.specs.Runs.{has}
use Rattle.window.specs.Window.{first, distant, marked, marking, cleared}
use Rattle.window.proofs.Marks.{marked-cleared, marked_same, marked_other}
use Rattle.record.specs.declared.groups.Unsequenced.{Unsequenced}
use Rattle.peer.specs.Damage.{sound}
use Rattle.peer.specs.Gate.{fits, gate_of, then, behind}
use Rattle.peer.specs.Settings.{fit_settings}
use Rattle.peer.specs.States.{disconnect_later}
use Rattle.peer.specs.Fresh.{fresh_peer}
use Rattle.peer.specs.Outcome.{State, Outcome, unchanged}
use Rattle.peer.specs.declared.settings.Settings.{Settings}
use Rattle.peer.specs.declared.Peer.{Peer}
use Rattle.peer.specs.declared.defaults.Kept.{Kept}
use Rattle.peer.specs.declared.gate.Lent.TheVariants.{Store}
use Rattle.peer.proofs.Gates.{behind_open, behind_has}
use Rattle.lifecycle.specs.Calls.{kept, resets}
use Rattle.arrival.specs.Storing.{free_slot}
use Rattle.arrival.specs.Arrivals.{answer_of, names, is_receiving, is_whole, arrival_gate, in_slot, room_of, reply_of}
use Rattle.arrival.specs.Window.{taken_at, passed_by, judge_window}
use Rattle.arrival.specs.declared.Arrival.{Arrival}
use Rattle.arrival.specs.declared.Fate.{Fate}
use Rattle.arrival.specs.declared.Fate.TheVariants as fate
use Rattle.arrival.specs.declared.Judged.{Judged}
use Rattle.arrive_unsequenced.specs.Calls.{send_unsequenced, judged_on, unsequenced_after, unsequenced_sound, arrives_unsequenced}
use Rattle.laws.proofs.Landing.{judged_has}
use Rattle.laws.specs.Steady.{SameWindow}
use Rattle.laws.proofs.Steady.{begin_steady, state_steady, dispatch_steady, receive_window, reliable_window}
use Rattle.laws.proofs.FragmentStores.{fragment_window}
use Rattle.link_in.specs.Steps.{beside}
use Rattle.link.specs.Steps.{calls}
use Rattle.link.specs.Runs.{Asked, comes_to, run, reset_state}
use Rattle.link_in.specs.declared.calls.Call.TheVariants as inw
use Rattle.link.specs.declared.calls.Call.{Call}
use Rattle.link.specs.declared.calls.Call.TheVariants as call
use Rattle.promises.specs.History.{Concern, resetting, arriving, neither, concern, base_of}
use Rattle.promises.specs.Repeats.{unsequencedly}
use Rattle.promises.specs.Next.{NearStored}
use Rattle.promises.specs.Marks.{takes, took_by, took, MarkedExactly, Aside, StoredAfterEight}
use Rattle.promises.proofs.Picks.{picked}
use Rattle.promises.proofs.Fitting.{fits_open, fits_admitted, fits_room}
use Rattle.promises.proofs.Windows.{Window, window_in, window_of, length-marking}
use Rattle.promises.proofs.Sending.{outward_steady}

-- a group that is near, in another window than the base's or not marked, is taken
near_taken : (gs : Unsequenced) (g : Group) (n : ℕ) → distant gs.incoming.0 g.0 ≡ false
    → (first g.0 ≡ gs.incoming.0 → ⊥) ⊎ (marked gs.words g.0 ≡ false)
    → (judge_window gs g (fate.Stored n)).fate ≡ fate.Stored n
near_taken gs g n near free = rw near (⊎_elim elsewhere unmarked free)
  where
    P : Bool → Bool → Type 0
    P here again = (pick here (pick again (passed_by gs) (taken_at (fate.Stored n) gs g gs.incoming gs.words))
        (taken_at (fate.Stored n) gs g (record { 0 = first g.0 }) cleared)).fate ≡ fate.Stored n

    elsewhere : (first g.0 ≡ gs.incoming.0 → ⊥) → P (eqb (first g.0) gs.incoming.0) (marked gs.words g.0)
    elsewhere d = rw (ne_eqb (first g.0) gs.incoming.0 d)

    unmarked : marked gs.words g.0 ≡ false → P (eqb (first g.0) gs.incoming.0) (marked gs.words g.0)
    unmarked m = rw m (go (eqb (first g.0) gs.incoming.0))
      where
        go : (here : Bool) → P here false
        go true = refl
        go false = refl

pub near_stored : NearStored
near_stored s a g datagram x good f near free =
    let p = x.peer in
    let room = fits_room send_unsequenced s a datagram x f in
    let fated : (judged_on s g p).fate ≡ fate.Stored room.0 =
    ap (λ (r : Fate). (judge_window p.unsequenced g r).fate) room.1 ∙ near_taken p.unsequenced g room.0 near free in
    ap (λ (o : Outcome State). o.answer)
    (behind_open (gate_of (fits s (Store (length x.store))) (sound p)) x (unsequenced_sound s a g datagram x)
    (fits_open send_unsequenced s a datagram x f good)
    ∙ behind_open (arrival_gate send_unsequenced a s p.standing (length datagram)) x _ (fits_admitted send_unsequenced s a datagram x f))
    ∙ ap (λ (r : Fate). answer_of (reply_of r)) fated

-- ---- what a call is to the window
-- a reset; an unsequenced arrival; or a call that leaves it
data Deals (c : Call) (x y : State) : Type 0 where
  clears : c ≡ call.Reset → Deals c x y
  brings : (a : Arrival) (g : Group) → c ≡ call.Inward (inw.UnsequencedArrival a g) → Deals c x y
  leaves : concern c ≡ neither → SameWindow x.peer y.peer → Deals c x y

deals : (s : Settings) (c : Call) (datagram : List ℕ) (x : State) → Deals c x (calls s c datagram x).after
deals s call.Reset datagram x = clears refl
deals s (call.Begin mtu channels) datagram x = leaves refl (begin_steady s mtu channels x.peer).window
deals s (call.SetState state) datagram x = leaves refl (state_steady s state x.peer).window
deals s (call.Outward c) datagram x = leaves refl (outward_steady s c x.peer).window
deals s (call.Inward (inw.UnsequencedArrival a g)) datagram x = brings a g refl
deals s (call.Inward (inw.ReliableArrival a)) datagram x = leaves refl (reliable_window s a datagram x)
deals s (call.Inward (inw.FragmentArrival a)) datagram x = leaves refl (fragment_window s a datagram x)
deals s (call.Inward (inw.Dispatch channel)) datagram x = leaves refl (dispatch_steady s channel x.peer).window
deals s (call.Inward inw.Receive) datagram x = leaves refl (receive_window s x.peer)

abbrev kind_of : Concern → ℕ
kind_of resetting = 0
kind_of (arriving g) = 1
kind_of neither = 2

same_window : (p q : Peer) → SameWindow p q → window_in q ≡ window_in p
same_window p q w = ap₂ (λ (b : Group) (ws : List ℕ). record { base = b.0; words = ws }) w.base w.words

aside_window : (a : Asked) (x : State) → concern a.call ≡ neither → window_of (comes_to a x).after ≡ window_of x
aside_window a x n = go (deals a.settings a.call a.datagram x)
  where
    go : Deals a.call x (comes_to a x).after → window_of (comes_to a x).after ≡ window_of x
    go (clears e) = absurd (omega (arith, ap (λ (c : Call). kind_of (concern c)) e, ap kind_of n))
    go (brings k g e) = absurd (omega (arith, ap (λ (c : Call). kind_of (concern c)) e, ap kind_of n))
    go (leaves i w) = same_window x.peer (comes_to a x).after.peer w

run_aside : (calls : List Asked) (x : State) → Aside calls → window_of (run calls x).end ≡ window_of x
unfolding run
run_aside [] x i = refl
run_aside (a ∷ rest) x i = run_aside rest (comes_to a x).after i.1 ∙ aside_window a x i.0

-- what a judgement comes to
abbrev comes : Arrival → List ℕ → State → Judged → Outcome State
comes a datagram x j = record { answer = answer_of (reply_of j.fate); after = unsequenced_after j.fate j.unsequenced a datagram x }

-- ---- what an 8 leaves: the base at the first group of g's window, and g not marked
record Unmarked (w : Window) (g : ℕ) : Type 0 where
  home : first g ≡ w.base
  unmarked : marked w.words g ≡ false

home_near : (base g : ℕ) → first g ≡ base → distant base g ≡ false
home_near base g home =
    let under : base ≤ g = omega arith in
    rw (le-ltb g base under) (lt-leb (base + 32768) g (omega arith))

module _ (s : Settings) (a : Arrival) (g : Group) (datagram : List ℕ) (x : State) where
  abbrev Eight : Outcome State → Type 0
  Eight o = o.answer.number ≡ 8 → Unmarked (window_of o.after) g.0

  -- no gate answers 8
  eight_behind : (fit good named on whole : Bool) (rest : Outcome State) → Eight rest
      → Eight (behind (gate_of fit good) x (behind
      (then (pick named (Ok tt) (Err BadCommand)) (then (pick on (Ok tt) (Err NotReceiving)) (pick whole (Ok tt) (Err LengthTooLarge)))) x rest))
  eight_behind true true true true true rest h = h
  eight_behind true true true true false rest h = λ e. absurd (omega (arith, e))
  eight_behind true true true false whole rest h = λ e. absurd (omega (arith, e))
  eight_behind true true false on whole rest h = λ e. absurd (omega (arith, e))
  eight_behind true false named on whole rest h = λ e. absurd (omega (arith, e))
  eight_behind false good named on whole rest h = λ e. absurd (omega (arith, e))

  eight_taken : (base : Group) (words : List ℕ) → first g.0 ≡ base.0 → marked words g.0 ≡ false → (room : Fate)
      → Eight (comes a datagram x (taken_at room x.peer.unsequenced g base words))
  eight_taken base words home not fate.Passed e = absurd (omega (arith, e))
  eight_taken base words home not fate.NoRoom e = record { home = home; unmarked = not }
  eight_taken base words home not (fate.Stored n) e = absurd (omega (arith, e))

  eight_unmarked : Eight (arrives_unsequenced s a g datagram x)
  eight_unmarked =
      let p = x.peer in
      eight_behind (fits s (Store (length x.store))) (sound p) (names a.byte send_unsequenced) (is_receiving a.channel p.standing)
      (is_whole a s (length datagram)) (comes a datagram x (judged_on s g p))
      (judged_has p.unsequenced g (room_of s p) (λ (j : Judged). Eight (comes a datagram x j))
      (λ f e. absurd (omega (arith, e)))
      (λ f h. eight_taken (record { 0 = first g.0 }) cleared refl (marked-cleared g.0) (room_of s p))
      (λ f h m e. absurd (omega (arith, e)))
      (λ f h m. eight_taken p.unsequenced.incoming p.unsequenced.words (eqb-true (first g.0) (base_of x) h) m (room_of s p)))

pub stored_after_eight : StoredAfterEight
stored_after_eight s t a g datagram x calls eight aside good f =
    let o = comes_to (unsequencedly s a g datagram) x in
    let y = (run calls o.after).end in
    let left = subst (λ (w : Window). Unmarked w g.0) (sym (run_aside calls o.after aside)) (eight_unmarked s a g datagram x eight) in
    near_stored t a g datagram y good f (home_near (base_of y) g.0 left.home) (inr left.unmarked)

-- ---- marked exactly if taken
-- what holds of the window and the log of those taken, from a reset on
record Marks (w : Window) (log : List ℕ) : Type 0 where
  full : length w.words ≡ window_words
  exact : (h : ℕ) → first h ≡ w.base → marked w.words h ≡ has log h

-- at a base, with these words
abbrev at : ℕ → List ℕ → Window
at base words = record { base = base; words = words }

cleared_marks : (base : ℕ) → Marks (at base cleared) []
cleared_marks base = record { full = length-replicate {A = ℕ} window_words 0; exact = λ h home. marked-cleared h }

-- words that mark g, and every other group as the log says
grown_marks : (w : Window) (log : List ℕ) (g : ℕ) → length w.words ≡ window_words → marked w.words g ≡ true
    → ((h : ℕ) → (g ≡ h → ⊥) → first h ≡ w.base → marked w.words h ≡ has log h) → Marks w (g ∷ log)
grown_marks w log g full here others = record { full = full; exact = λ h home. go h home (eqb g h) refl }
  where
    go : (h : ℕ) → first h ≡ w.base → (b : Bool) → eqb g h ≡ b → marked w.words h ≡ pick b true (has log h)
    go h home true t = ap (marked w.words) (sym (eqb-true g h t)) ∙ here
    go h home false t = others h (eqb-false g h t) home

-- marked now
join_marks : (base : ℕ) (words log : List ℕ) (g : ℕ) → first g ≡ base → Marks (at base words) log → Marks (at base (marking words g)) (g ∷ log)
join_marks base words log g here m =
    grown_marks (at base (marking words g)) log g (length-marking words g ∙ m.full) (marked_same words g m.full)
    (λ h n home. marked_other words g h m.full (λ p. n (omega (arith, p, home, here))) ∙ m.exact h home)

-- marked already
again_marks : (w : Window) (log : List ℕ) (g : ℕ) → marked w.words g ≡ true → Marks w log → Marks w (g ∷ log)
again_marks w log g here m = grown_marks w log g m.full here (λ h n home. m.exact h home)

-- an arrival with a group to take is passed over in state 6 alone
room_passed : (s : Settings) (p : Peer) → room_of s p ≡ fate.Passed → eqb p.standing.state disconnect_later ≡ true
room_passed s p =
    go (eqb p.standing.state disconnect_later) (leb s.waiting p.waiting.total) (free_slot p.lists p.channels p.standing.channels)
  where
    go : (later full : Bool) (free : Option ℕ) → pick later fate.Passed (pick full fate.NoRoom (in_slot free)) ≡ fate.Passed → later ≡ true
    go true full free e = refl
    go false true free e = let z : ◌≡◌ {A = ℕ} 0 1 = cc in absurd (omega arith)
    go false false (Some n) e = let z : ◌≡◌ {A = ℕ} 0 1 = cc in absurd (omega arith)
    go false false None e = let z : ◌≡◌ {A = ℕ} 0 1 = cc in absurd (omega arith)

module _ (s : Settings) (a : Arrival) (g : Group) (datagram : List ℕ) (x : State) (log : List ℕ) (m : Marks (window_of x) log) where
  abbrev Then : Outcome State → Type 0
  Then o = Marks (window_of o.after) (took_by (arriving g.0) x o log)

  -- the window as it was, and the group not taken
  still_marks : (o : Outcome State) → window_of o.after ≡ window_of x → takes g.0 x o ≡ false → Then o
  still_marks o same not =
      rw (not, eq-eqb (base_of o.after) (base_of x) (ap (λ (w : Window). w.base) same)) (rw same m)

  shut_marks : (why : Refusal) → Then (unchanged why x)
  shut_marks why = still_marks (unchanged why x) refl (rw (ne_eqb (number_of why) 0 (refused_not_done why)))

  -- taken, at a base and with words that hold the log since
  taken_marks : (base : Group) (words since : List ℕ) → pick (eqb base.0 (base_of x)) log [] ≡ since → Marks (at base.0 words) since
      → first g.0 ≡ base.0 → (room : Fate) → room_of s x.peer ≡ room → Then (comes a datagram x (taken_at room x.peer.unsequenced g base words))
  taken_marks base words since from k home fate.Passed e =
      rw (room_passed s x.peer e, eq-eqb (first g.0) base.0 home, from) (join_marks base.0 words since g.0 home k)
  taken_marks base words since from k home fate.NoRoom e = rw from k
  taken_marks base words since from k home (fate.Stored n) e = rw from (join_marks base.0 words since g.0 home k)

  -- too far: not in the base's window
  far_marks : distant (base_of x) g.0 ≡ true → Then (comes a datagram x (passed_by x.peer.unsequenced))
  far_marks far =
      let away = ne_eqb (first g.0) (base_of x) (λ home.
      let near = home_near (base_of x) g.0 home in let z : ◌≡◌ {A = ℕ} 0 1 = cc in omega arith) in
      still_marks (comes a datagram x (passed_by x.peer.unsequenced)) refl
      (both_false (eqb x.peer.standing.state disconnect_later) (eqb (first g.0) (base_of x)) away)

  -- marked already: in the log, so nothing changes if it is told once more, as in state 6
  marked_marks : marked x.peer.unsequenced.words g.0 ≡ true → Then (comes a datagram x (passed_by x.peer.unsequenced))
  marked_marks again =
      rw (eq-eqb (base_of x) (base_of x) refl)
      (picked (Marks (window_of x)) (both (eqb x.peer.standing.state disconnect_later) (eqb (first g.0) (base_of x))) (g.0 ∷ log) log
      (again_marks (window_of x) log g.0 again m) m)

  arrival_marks : Then (arrives_unsequenced s a g datagram x)
  arrival_marks =
      let p = x.peer in
      behind_has (gate_of (fits s (Store (length x.store))) (sound p)) x (unsequenced_sound s a g datagram x) Then shut_marks
      (λ e. behind_has (arrival_gate send_unsequenced a s p.standing (length datagram)) x _ Then shut_marks
      (λ own. judged_has p.unsequenced g (room_of s p) (λ (j : Judged). Then (comes a datagram x j))
      far_marks
      (λ f h. taken_marks (record { 0 = first g.0 }) cleared [] (rw h) (cleared_marks (first g.0)) refl (room_of s p) refl)
      (λ f h k. marked_marks k)
      (λ f h k. taken_marks p.unsequenced.incoming p.unsequenced.words log (rw (eq-eqb (base_of x) (base_of x) refl)) m
      (eqb-true (first g.0) (base_of x) h) (room_of s p) refl)))

-- ---- along a run
fresh_marks : (mtu : ℕ) (k : Kept) → Marks (window_in (fresh_peer mtu k)) []
unfolding fresh_peer
fresh_marks mtu k = cleared_marks 0

reset_marks : (s : Settings) (x : State) (log : List ℕ) → Marks (window_of x) log
    → let o = beside x (resets s x.peer) in Marks (window_of o.after) (took_by resetting x o log)
reset_marks s x log m =
    picked (λ (o : Outcome Peer). Marks (window_in o.after) (took_by resetting x (beside x o) log)) (fit_settings s) _ _
    (fresh_marks s.mtu (kept x.peer)) m

step_marks : (s : Settings) (c : Call) (datagram : List ℕ) (x : State) (log : List ℕ) → Marks (window_of x) log
    → let o = calls s c datagram x in Marks (window_of o.after) (took_by (concern c) x o log)
step_marks s c datagram x log m = go (deals s c datagram x)
  where
    Then : Call → Type 0
    Then k = let o = calls s k datagram x in Marks (window_of o.after) (took_by (concern k) x o log)

    go : Deals c x (calls s c datagram x).after → Then c
    go (clears e) = subst Then (sym e) (reset_marks s x log m)
    go (brings a g e) = subst Then (sym e) (arrival_marks s a g datagram x log m)
    go (leaves n w) =
        let o = calls s c datagram x in
        subst (λ (k : Concern). Marks (window_of o.after) (took_by k x o log)) (sym n)
        (subst (λ (v : Window). Marks v log) (sym (same_window x.peer o.after.peer w)) m)

run_marks : (calls : List Asked) (x : State) (log : List ℕ) → Marks (window_of x) log → Marks (window_of (run calls x).end) (took calls x log)
unfolding run took
run_marks [] x log m = m
run_marks (a ∷ rest) x log m =
    run_marks rest (comes_to a x).after (took_by (concern a.call) x (comes_to a x) log)
    (step_marks a.settings a.call a.datagram x log m)

pub marked_exactly : MarkedExactly
marked_exactly mtu kept store second calls g home =
    (run_marks calls (reset_state mtu kept store second) [] (fresh_marks mtu kept)).exact g home
