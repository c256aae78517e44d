-- A call on two records that are the same, side by side: both are refused alike or both go on, and the groups that a call changes stay alike part by part.
-- The argument: the gate is the same on both, and by cases on it.
use mathlib.Core.Path.{◌≡◌, refl, sym, subst}
use mathlib.Core.List.{List}
use Rattle.std.specs.Prelude.{⊤, Result, Ok, Err}
use Rattle.numbers.specs.declared.refusals.Refusal.{Refusal}
use Rattle.record.specs.Fresh.{no_outgoing}
use Rattle.record.specs.Damage.{below, used_out}
use Rattle.record.specs.declared.groups.Standing.{Standing}
use Rattle.record.specs.declared.groups.Totals.{Totals}
use Rattle.record.specs.declared.groups.Times.{Times}
use Rattle.record.specs.declared.groups.Loss.{Loss}
use Rattle.record.specs.declared.groups.Throttling.{Throttling}
use Rattle.record.specs.declared.groups.Trips.{Trips}
use Rattle.record.specs.declared.groups.Flow.{Flow}
use Rattle.record.specs.declared.groups.Lists.{Lists}
use Rattle.record.specs.declared.groups.Unsequenced.{Unsequenced}
use Rattle.record.specs.declared.groups.Waiting.{Waiting}
use Rattle.record.specs.declared.groups.Channel.{Channel}
use Rattle.record.specs.declared.groups.Outgoing.{Outgoing}
use Rattle.record.specs.declared.groups.Incoming.{Incoming}
use Rattle.record.specs.declared.groups.Marks.{Marks}
use Rattle.peer.specs.Outcome.{Outcome, unchanged}
use Rattle.peer.specs.Gate.{behind}
use Rattle.peer.specs.Updates.{rebuilt}
use Rattle.peer.specs.declared.Peer.{Peer}
use Rattle.laws.proofs.SameLaws.{Agree, Lined, Ranked, Like}

-- what refusals and the rest have, on both sides of one gate
pub behind_pair : {A : Type 0} (R : Outcome A → Outcome A → Type 0) (g h : Result ⊤ Refusal) (x y : A) (o r : Outcome A) → g ≡ h
    → ((why : Refusal) → R (unchanged why x) (unchanged why y)) → (g ≡ Ok tt → R o r) → R (behind g x o) (behind h y r)
behind_pair {A} R g h x y o r e shut rest = subst (λ (f : Result ⊤ Refusal). R (behind g x o) (behind f y r)) e (go g refl)
  where
    go : (f : Result ⊤ Refusal) → g ≡ f → R (behind f x o) (behind f y r)
    go (Ok _) d = rest d
    go (Err why) d = shut why

-- channels by one count
pub ranked_by : (p q : Peer) → Like p q → Ranked (below p.channels p.standing.channels) (below q.channels p.standing.channels)
ranked_by p q k =
    subst (λ (s : Standing). Ranked (below p.channels p.standing.channels) (below q.channels s.channels)) (sym k.standing) k.channels

-- all the groups that a call may change
module _ (p q : Peer) (k : Like p q) where
  pub rebuilt_like : {standing standing' : Standing} {totals totals' : Totals} {times times' : Times} {loss loss' : Loss}
      {throttling throttling' : Throttling} {trips trips' : Trips} {flow flow' : Flow} {lists lists' : Lists} {unsequenced unsequenced' : Unsequenced}
      {waiting waiting' : Waiting} {channels channels' : List Channel} {outgoing outgoing' : List Outgoing} {incoming incoming' : List Incoming}
      {marks marks' : Marks}
      → standing ≡ standing' → totals ≡ totals' → times ≡ times' → loss ≡ loss' → throttling ≡ throttling' → trips ≡ trips' → flow ≡ flow'
      → Lined lists lists' → unsequenced ≡ unsequenced' → waiting ≡ waiting' → Ranked (below channels standing.channels) (below channels' standing.channels)
      → Agree no_outgoing (used_out lists) outgoing outgoing' → marks ≡ marks'
      → Like (rebuilt p standing totals times loss throttling trips flow lists unsequenced waiting channels outgoing incoming marks)
      (rebuilt q standing' totals' times' loss' throttling' trips' flow' lists' unsequenced' waiting' channels' outgoing' incoming' marks')
  rebuilt_like {standing = now} {channels = channels} {channels' = channels'} standing totals times loss throttling trips flow lists unsequenced waiting ranked outs marks =
      record {
        ids = k.ids;
        standing = standing;
        bandwidth = k.bandwidth;
        totals = totals;
        times = times;
        loss = loss;
        throttling = throttling;
        limits = k.limits;
        trips = trips;
        flow = flow;
        unsequenced = unsequenced;
        waiting = waiting;
        marks = marks;
        lists = lists;
        channels = subst (λ (s : Standing). Ranked (below channels now.channels) (below channels' s.channels)) standing ranked;
        outs = outs;
      }
