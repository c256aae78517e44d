-- The check on the lent record: a turn of its walk, the walk's end, the numbers that it settles, and what all of it comes to.
-- The argument: each step's own equation, in the order of the steps; behind the gate the record is the rule's.
use Prim.Native.Nat.{ℕ, ◌+◌, ◌≤◌, ◌<◌}
use mathlib.Core.Path.{◌≡◌, refl, ap, sym, subst, ◌∙◌}
use mathlib.Core.Bool.{Bool, true, false}
use mathlib.Core.List.{List, ◌∷◌}
use native.Mathlib.Numerals.{add-one}
use native.Mathlib.Omega.{arith}
use lib.Dec.{leb}
use lib.ListN.{length, take, drop, get_or, set, length-take, length-drop, length-map, drop_of_length-le}
use lib.Seq.{drop-cons}
use borrow.Author.Tests.{leb-true}
use Rattle.std.specs.Prelude.{Ok, Err}
use Rattle.numbers.specs.Pick.{pick, both}
use Rattle.numbers.proofs.BoolLaws.{both_left, both_right}
use Rattle.numbers.specs.declared.refusals.Refusal.{Refusal}
use Rattle.record.specs.Lists.{outgoing, incoming, out_items}
use Rattle.record.specs.Fresh.{no_outgoing}
use Rattle.record.specs.Updates.{with_timeouts, with_packets_lost, with_transit}
use Rattle.record.specs.declared.groups.Times.{Times}
use Rattle.record.specs.declared.groups.Loss.{Loss}
use Rattle.record.specs.declared.groups.Flow.{Flow}
use Rattle.record.specs.declared.groups.Limits.{Limits}
use Rattle.record.specs.declared.groups.Lists.{Lists}
use Rattle.peer.specs.Damage.{sound}
use Rattle.peer.specs.Outcome.{Came}
use Rattle.peer.specs.Updates.{with_times, with_loss, with_flow, with_lists, with_outgoing, with_checked}
use Rattle.peer.specs.declared.settings.Settings.{Settings}
use Rattle.peer.specs.declared.Peer.{Peer}
use Rattle.peer.specs.declared.gate.Lent.TheVariants.{Nothing}
use Rattle.peer.proofs.Clauses.{sound_clauses}
use Rattle.places.specs.Whole.{whole, record_length, made, parts, sizes}
use Rattle.peer.proofs.Gates.{AtGate, came_shut, came_open, open_sound}
use Rattle.overdue.specs.Walking.{Walked, walked, turn_by, at_entry, lists_by}
use Rattle.overdue.proofs.Laws.{lists_within}
use Rattle.overdue.proofs.Staying.{walked-stays, lists_stay}
use Rattle.overdue.specs.declared.step.Walk.{Walk}
use Rattle.timeouts.specs.Calls.{answer_of, reply_by, walk_of, checks_sound, checks}
use Rattle.timeouts.specs.declared.Checked.{Checked}
use Rattle.timeouts.proofs.Walking.{Going, going_turn, going_end}

-- ---- the walk over the sent list of the record p₀, which is p now
module _ {limits : Limits} {clock : ℕ} {p₀ p : Peer} {w : Walk} {marks : List ℕ} {j : ℕ}
    (g : Going limits clock (out_items p₀.lists.sent) (at_entry p₀.times p₀.loss p₀.flow) p₀ p w marks j) where
  abbrev items : List ℕ
  items = out_items p₀.lists.sent

  abbrev w₀ : Walk
  w₀ = at_entry p₀.times p₀.loss p₀.flow

  -- s is the slot that the code read, after, v and m what its turn left
  pub lent_turn : (s m : ℕ) (v : Walk) (after : Peer) → j < length items → length items ≤ outgoing → s ≡ get_or (out_items p.lists.sent) j 0
      → v ≡ (turn_by limits clock w (get_or p.outgoing s no_outgoing)).walk → m ≡ (turn_by limits clock w (get_or p.outgoing s no_outgoing)).mark
      → after ≡ with_outgoing p (set p.outgoing s (turn_by limits clock w (get_or p.outgoing s no_outgoing)).slot)
      → Going limits clock items w₀ p₀ after v (set marks j m) (j + 1)
  lent_turn s m v after h high se ve me ae =
      let t = turn_by limits clock w (get_or p.outgoing s no_outgoing) in
      let at : s ≡ get_or items j 0 = se ∙ ap (λ (q : Peer). get_or (out_items q.lists.sent) j 0) g.same in
      let split : drop j items ≡ s ∷ drop (j + 1) items = rw (at, add-one j) (drop-cons items j 0 h) in
      subst (λ (x : Peer). Going limits clock items w₀ p₀ x v (set marks j m) (j + 1)) (sym ae)
      (subst (λ (x : Walk). Going limits clock items w₀ p₀ (with_outgoing p (set p.outgoing s t.slot)) x (set marks j m) (j + 1)) (sym ve)
      (subst (λ (x : ℕ). Going limits clock items w₀ p₀ (with_outgoing p (set p.outgoing s t.slot)) t.walk (set marks j x) (j + 1)) (sym me)
      (going_turn g s split (omega arith) t refl)))

  module _ (le : limits ≡ p₀.limits) (e : j ≡ length items) where
    pub walk_end : walk_of clock p₀ ≡ record { walk = w; marks = take (length items) marks; slots = p.outgoing }
    walk_end =
        ap (λ (x : Limits). walked x clock items w₀ p₀.outgoing) (sym le)
        ∙ going_end g (drop_of_length-le items {i = j} (omega arith))
        ∙ ap (λ (k : ℕ). record { walk = w; marks = take k marks; slots = p.outgoing }) e

    pub slots_end : p ≡ with_outgoing p₀ (walk_of clock p₀).slots
    slots_end = g.same ∙ ap (λ (x : Walked). with_outgoing p₀ x.slots) (sym walk_end)

-- the numbers that it begins with
pub begin_is : (p : Peer) (r : Walk) (t : Times) (l : Loss) (f : Flow) → t ≡ p.times → l ≡ p.loss → f ≡ p.flow → r ≡ at_entry t l f
    → r ≡ at_entry p.times p.loss p.flow
begin_is p r t l f te le fe re =
    re
    ∙ ap (λ (x : Times). at_entry x l f) te
    ∙ ap (λ (x : Loss). at_entry p.times x f) le
    ∙ ap (λ (x : Flow). at_entry p.times p.loss x) fe

-- the record with a walk's numbers
abbrev settled : Peer → Walk → Peer
settled p w =
    with_checked p (with_timeouts p.times w.next w.earliest) (with_packets_lost p.loss w.lost) (with_transit p.flow w.transit) p.lists p.outgoing

pub settle_is : (p x y z : Peer) (w : Walk) (t : Times) (l : Loss) (f : Flow) → t ≡ p.times → l ≡ p.loss → f ≡ p.flow
    → x ≡ with_times p (with_timeouts t w.next w.earliest) → y ≡ with_loss x (with_packets_lost l w.lost) → z ≡ with_flow y (with_transit f w.transit)
    → z ≡ settled p w
settle_is p x y z w t l f te le fe a b c =
    c
    ∙ ap (λ (g : Flow). with_flow y (with_transit g w.transit)) fe
    ∙ ap (λ (q : Peer). with_flow q (with_transit p.flow w.transit))
    (b
    ∙ ap (λ (g : Loss). with_loss x (with_packets_lost g w.lost)) le
    ∙ ap (λ (q : Peer). with_loss q (with_packets_lost p.loss w.lost)) (a ∙ ap (λ (g : Times). with_times p (with_timeouts g w.next w.earliest)) te))

-- ---- a walk that sent none back: the lists of a sound record are as they were
module _ (ws : List ℕ) (long : length ws ≡ record_length) (clock : ℕ) where
  sent_cells : length (whole ws).lists.sent.slots ≡ outgoing
  unfolding made parts sizes
  sent_cells = simp (length-map, length-drop, length-take) (omega arith)

  reliable_cells : length (whole ws).lists.send_reliable.slots ≡ outgoing
  unfolding made parts sizes
  reliable_cells = simp (length-map, length-drop, length-take) (omega arith)

  outgoing_cells : length (whole ws).lists.outgoing.slots ≡ outgoing
  unfolding made parts sizes
  outgoing_cells = simp (length-map, length-drop, length-take) (omega arith)

  pub none_back : sound (whole ws) ≡ true → (walk_of clock (whole ws)).walk.back ≡ false → lists_by (walk_of clock (whole ws)).marks (whole ws).lists ≡ (whole ws).lists
  none_back h b =
      let p = whole ws in
      let l = p.lists in
      let s = leb l.sent.len outgoing in
      let r = leb l.send_reliable.len outgoing in
      let o = leb l.outgoing.len outgoing in
      let d = leb l.dispatched.len incoming in
      let fit = (sound_clauses p h).lists in
      let rest = both_right s (both r (both o d)) fit in
      let sent = leb-true l.sent.len outgoing (both_left s (both r (both o d)) fit) in
      let reliable = leb-true l.send_reliable.len outgoing (both_left r (both o d) rest) in
      let out = leb-true l.outgoing.len outgoing (both_left o d (both_right r (both o d) rest)) in
      lists_stay (walk_of clock p).marks l
      (walked-stays p.limits clock (out_items l.sent) (at_entry p.times p.loss p.flow) p.outgoing b).1
      (omega (arith, sent, sent_cells)) (omega (arith, reliable, reliable_cells)) (omega (arith, out, outgoing_cells))

-- ---- the whole check: g is what the gate answered, w and marks what the walk gave, x, y and z the records after walk, lists and numbers
module _ (s : Settings) (clock : ℕ) (ws : List ℕ) (g : AtGate s Nothing (whole ws)) where
  abbrev p : Peer
  p = whole ws

  abbrev n : ℕ
  n = length (out_items p.lists.sent)

  pub check_shut : (why : Refusal) → g.gate ≡ Err why → Came answer_of (checks s clock p) (Err why) p
  check_shut why q = came_shut g p (checks_sound clock p) answer_of (Err why) why refl q

  module _ (opens : g.gate ≡ Ok tt) (w : Walk) (marks : List ℕ) (we : w ≡ (walk_of clock p).walk) (me : take n marks ≡ (walk_of clock p).marks)
      (x : Peer) (xe : x ≡ with_outgoing p (walk_of clock p).slots) where
    abbrev v : Walked
    v = walk_of clock p

    lists : lists_by marks p.lists ≡ lists_by v.marks p.lists
    lists = sym (lists_within n marks p.lists (omega arith)) ∙ ap (λ (ms : List ℕ). lists_by ms p.lists) me

    -- the lists are divided, where one went back
    divided : length ws ≡ record_length → pick w.back (with_lists x (lists_by marks x.lists)) x ≡ with_lists x (lists_by marks x.lists)
    divided long = go w.back refl
      where
        go : (b : Bool) → w.back ≡ b → pick b (with_lists x (lists_by marks x.lists)) x ≡ with_lists x (lists_by marks x.lists)
        go true e = refl
        go false e =
            let none = none_back ws long clock (open_sound g opens) (ap (λ (u : Walk). u.back) (sym we) ∙ e) in
            let same : lists_by marks x.lists ≡ x.lists =
            ap (λ (q : Peer). lists_by marks q.lists) xe ∙ lists ∙ none ∙ ap (λ (q : Peer). q.lists) (sym xe) in
            ap (with_lists x) (sym same)

    pub check_went : length ws ≡ record_length → (y z : Peer) (reply : Checked) → y ≡ pick w.back (with_lists x (lists_by marks x.lists)) x
        → z ≡ settled y w → reply ≡ reply_by w.over → Came answer_of (checks s clock p) (Ok reply) z
    check_went long y z reply ye ze re =
        came_open g p (checks_sound clock p) answer_of (Ok reply) z opens
        (record {
          answer = ap (λ (k : Checked). answer_of (Ok k)) re ∙ ap (λ (u : Walk). answer_of (Ok (reply_by u.over))) we;
          after =
              ze
              ∙ ap (λ (q : Peer). settled q w) (ye ∙ divided long ∙ ap (λ (q : Peer). with_lists q (lists_by marks q.lists)) xe)
              ∙ ap (λ (l : Lists). settled (with_lists (with_outgoing p v.slots) l) w) lists
              ∙ ap (λ (u : Walk). settled (with_lists (with_outgoing p v.slots) (lists_by v.marks p.lists)) u) we;
        })
