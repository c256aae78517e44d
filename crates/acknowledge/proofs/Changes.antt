-- What an acknowledgement on the lent record makes of it: each part is the rule's, and the parts one after the other are the rule's record and answer.
-- The argument: what was read is the record's own and what was written its update, so each part is one equation; a slot in brief says all that is asked of it.
use Rattle.std.specs.Prelude.{Result}
use Rattle.numbers.specs.declared.refusals.Refusal.{Refusal}
use Rattle.std.proofs.Common.{◌≡◌, ℕ, Bool, Option, Some, None, eqb, refl, ap, ◌∙◌}
use Rattle.cells.specs.Runs.{first}
use Rattle.record.specs.Lists.{out_items}
use Rattle.record.specs.declared.groups.Standing.{Standing}
use Rattle.record.specs.declared.groups.Times.{Times}
use Rattle.record.specs.declared.groups.Throttling.{Throttling}
use Rattle.record.specs.declared.groups.Trips.{Trips}
use Rattle.record.specs.declared.groups.Flow.{Flow}
use Rattle.record.specs.declared.groups.Outgoing.{Outgoing}
use Rattle.peer.specs.Outcome.{Came}
use Rattle.peer.specs.Updates.{with_times, with_throttling, with_flow, with_lists}
use Rattle.peer.specs.declared.Peer.{Peer}
use Rattle.pool.specs.Slots.{brief_of}
use Rattle.pool.specs.declared.Brief.{Brief}
use Rattle.places.specs.Updates.{with_trips}
use Rattle.round_trip.specs.Interval.{measured}
use Rattle.round_trip.specs.declared.averages.Measured.{Measured}
use Rattle.queues.specs.declared.Out.{Out}
use Rattle.queues.specs.declared.Out.TheVariants as out
use Rattle.std.specs.Prelude.{is_some}
use Rattle.acknowledge.specs.Removal.{slot_at, held_by, lists_without, flow_left, flow_without, times_without, command_at}
use Rattle.acknowledge.specs.CodeSearches.{spot_in, slot_of}
use Rattle.acknowledge.specs.declared.removal.Spot.{Spot}
use Rattle.acknowledge.specs.Calls.{answer_of, heard_in, received, event_in, heard_at}
use Rattle.acknowledge.specs.CodeParts.{measured_in, freed_in, timed_in}
use Rattle.acknowledge.specs.declared.Event.{Event}

left_brief : (l : Out) (o : Outgoing) (f : Flow) → flow_left l (slot_of (brief_of o)) f ≡ flow_left l o f
left_brief out.Sent o f = refl
left_brief out.Outgoing o f = refl
left_brief out.Reliable o f = refl

flow_brief : (w : Option Spot) (o : Outgoing) (f : Flow) → flow_without w (slot_of (brief_of o)) f ≡ flow_without w o f
flow_brief (Some s) o f = left_brief s.list o f
flow_brief None o f = refl

module _ (p : Peer) where
  -- the sample
  pub measured_is : (sample clock : ℕ) (v y : Peer) (t : Times) (th : Throttling) (tr : Trips) (m : Measured) → t ≡ p.times → th ≡ p.throttling → tr ≡ p.trips
      → m ≡ measured (eqb t.last_receive 0) sample clock th tr → v ≡ with_throttling p m.throttling → y ≡ with_trips v m.trips
      → y ≡ measured_in sample clock p
  measured_is sample clock v y t th tr m a b c d e f =
      f
      ∙ ap (λ (k : Peer). with_trips k m.trips) e
      ∙ ap (λ (n : Measured). with_trips (with_throttling p n.throttling) n.trips)
      (d
      ∙ ap (λ (x : Times). measured (eqb x.last_receive 0) sample clock th tr) a
      ∙ ap (λ (x : Throttling). measured (eqb p.times.last_receive 0) sample clock x tr) b
      ∙ ap (measured (eqb p.times.last_receive 0) sample clock p.throttling) c)

  -- the command that is removed: o is its slot in brief
  module _ (w : Option Spot) (slot : Option ℕ) (o : Brief) (a : o ≡ brief_of (held_by p.outgoing slot)) where
    pub number_is : (b : Bool) (n : ℕ) → b ≡ is_some slot → n ≡ command_at b (slot_of o) → n ≡ command_at (is_some slot) (held_by p.outgoing slot)
    number_is b n e z = z ∙ ap (λ (x : Bool). command_at x (slot_of o)) e ∙ ap (λ (x : Brief). command_at (is_some slot) (slot_of x)) a

    pub freed_is : (v y : Peer) (old new : Flow) → old ≡ p.flow → new ≡ flow_without w (slot_of o) old → v ≡ with_flow p new
        → y ≡ with_lists v (lists_without w v.lists) → y ≡ freed_in w slot p
    freed_is v y old new b c d e =
        e
        ∙ ap (λ (k : Peer). with_lists k (lists_without w k.lists))
        (d
        ∙ ap (with_flow p)
        (c
        ∙ ap (flow_without w (slot_of o)) b
        ∙ ap (λ (x : Brief). flow_without w (slot_of x) p.flow) a
        ∙ flow_brief w (held_by p.outgoing slot) p.flow))

  -- the times: f is sent's head, h its slot in brief
  pub timed_is : (removed : Bool) (clock : ℕ) (y : Peer) (f : Option ℕ) (h : Brief) (l : Bool) (t now new : Times) → f ≡ first (out_items p.lists.sent)
      → h ≡ brief_of (held_by p.outgoing f) → l ≡ is_some f → t ≡ p.times → now ≡ received clock t → new ≡ times_without removed l (slot_of h) now
      → y ≡ with_times p new → y ≡ timed_in removed clock p
  timed_is removed clock y f h l t now new a b c d e g z =
      z
      ∙ ap (with_times p)
      (g
      ∙ ap (times_without removed l (slot_of h)) (e ∙ ap (received clock) d)
      ∙ ap (λ (x : Bool). times_without removed x (slot_of h) (received clock p.times)) c
      ∙ ap (λ (x : Brief). times_without removed (is_some f) (slot_of x) (received clock p.times)) b
      ∙ ap (λ (x : Option ℕ). times_without removed (is_some x) (held_by p.outgoing x) (received clock p.times)) a)

  -- the state
  module _ (s : Standing) (a : s ≡ p.standing) where
    pub event_is : (command : ℕ) (r : Result Event Refusal) → r ≡ event_in s.state command p.lists → r ≡ event_in p.standing.state command p.lists
    event_is command r e = e ∙ ap (λ (x : Standing). event_in x.state command p.lists) a

    pub trip_is : (clock sent : ℕ) (t : Option ℕ) → t ≡ heard_in s.state clock sent → t ≡ heard_in p.standing.state clock sent
    trip_is clock sent t e = e ∙ ap (λ (x : Standing). heard_in x.state clock sent) a

-- the parts one after the other
module _ (sample channel number clock : ℕ) (p v w x : Peer) (at : Option Spot) (slot : Option ℕ) (command : ℕ) (removed : Bool) (reply : Result Event Refusal)
    (vq : v ≡ measured_in sample clock p) (aq : at ≡ spot_in v.outgoing number channel v.lists) (sq : slot ≡ slot_at at v.lists)
    (cq : command ≡ command_at (is_some slot) (held_by v.outgoing slot)) (wq : w ≡ freed_in at slot v) (rq : removed ≡ is_some slot)
    (xq : x ≡ timed_in removed clock w) (eq : reply ≡ event_in x.standing.state command x.lists) where
  abbrev found : Peer → Option Spot
  found k = spot_in k.outgoing number channel k.lists

  after_is : x ≡ (heard_at (found p) sample clock p).after
  after_is =
      xq
      ∙ ap (timed_in removed clock) wq
      ∙ ap (λ (b : Bool). timed_in b clock (freed_in at slot v)) rq
      ∙ ap (λ (f : Option ℕ). timed_in (is_some f) clock (freed_in at f v)) sq
      ∙ ap (λ (s : Option Spot). timed_in (is_some (slot_at s v.lists)) clock (freed_in s (slot_at s v.lists) v)) aq
      ∙ ap (λ (k : Peer). timed_in (is_some (slot_at (found k) k.lists)) clock (freed_in (found k) (slot_at (found k) k.lists) k)) vq

  command_is : command ≡ command_at (is_some (slot_at (found p) p.lists)) (held_by p.outgoing (slot_at (found p) p.lists))
  command_is =
      cq
      ∙ ap (λ (f : Option ℕ). command_at (is_some f) (held_by v.outgoing f)) sq
      ∙ ap (λ (s : Option Spot). command_at (is_some (slot_at s v.lists)) (held_by v.outgoing (slot_at s v.lists))) aq
      ∙ ap (λ (k : Peer). command_at (is_some (slot_at (found k) k.lists)) (held_by k.outgoing (slot_at (found k) k.lists))) vq

  pub heard_is : Came answer_of (heard_at (found p) sample clock p) reply x
  heard_is =
      record {
        answer =
            ap answer_of
            (eq
            ∙ ap (λ (k : Peer). event_in k.standing.state command k.lists) after_is
            ∙ ap (λ (n : ℕ). event_in p.standing.state n (lists_without (found p) p.lists)) command_is);
        after = after_is;
      }
