-- Calls that report nothing on a channel: they leave its last number, what it holds, the count and the incoming slots. The argument: each call's own
-- definition, in which these parts stand as they were; setting up counts a channel's outgoing numbers alone.
use Rattle.std.specs.Prelude.{None, Option, Some}
use Prim.Native.Nat.{ℕ}
use mathlib.Core.Path.{◌≡◌, refl, ap, sym, ◌∙◌}
use mathlib.Core.Bool.{Bool, true, false}
use mathlib.Core.List.{List, [], ◌∷◌}
use lib.Dec.{leb}
use lib.ListN.{length, get_or, set, get_or-map}
use lib.Seq.{map-set_same}
use Rattle.std.specs.Prelude.{⊤, Result}
use Rattle.numbers.specs.Pick.{pick}
use Rattle.numbers.specs.declared.counters.Reliable.{Reliable}
use Rattle.numbers.specs.declared.refusals.Refusal.{Refusal}
use Rattle.numbers.specs.declared.refusals.Refusal.TheVariants.{OutOfRange}
use Rattle.record.specs.Lists.{outgoing, out_items, in_items}
use Rattle.cells.specs.Runs.{first}
use Rattle.cells.specs.Free.{lowest}
use Rattle.record.specs.Damage.{used_out}
use Rattle.record.specs.Fresh.{no_channel}
use Rattle.record.specs.declared.groups.Channel.{Channel}
use Rattle.peer.specs.Damage.{sound}
use Rattle.peer.specs.Gate.{fits, gate_of, behind}
use Rattle.peer.specs.States.{last_state}
use Rattle.peer.specs.Outcome.{Outcome, finished, unchanged}
use Rattle.peer.specs.declared.settings.Settings.{Settings}
use Rattle.peer.specs.declared.Peer.{Peer}
use Rattle.peer.specs.declared.gate.Lent.TheVariants as lent
use Rattle.peer.proofs.Gates.{behind_has}
use Rattle.lifecycle.specs.Calls.{stated, sets_state_sound, sets_state}
use Rattle.outbox.specs.declared.pieces.Piece.{Piece}
use Rattle.setup.specs.Queueing.{room, queued_in, queued_at, queued, queued_all}
use Rattle.setup.specs.Calls.{setup_gate, sets_up_sound, sets_up}
use Rattle.packets.specs.Refusals.{send_gate, queue_gate}
use Rattle.send.specs.Calls.{fragment, commands, queues_all, sends_sound, sends}
use Rattle.setup.specs.Pings.{ping_piece, ping_gate, pings_sound, pings}
use Rattle.send_step.specs.Steps.{list_of, sent_as}
use Rattle.send_step.specs.Calls.{steps_from, steps_sound, steps}
use Rattle.send_step.specs.declared.heads.Queue.{Queue}
use Rattle.round_trip.specs.Calls.{throttles_sound, throttles}
use Rattle.acknowledge.specs.Calls.{heard_in, acknowledges_by, acknowledges_sound, acknowledges}
use Rattle.timeouts.specs.Calls.{checks_sound, checks}
use Rattle.receive.specs.Calls.{taken, receives_from, receives_sound, receives}
use Rattle.link_out.specs.Steps.{calls_out}
use Rattle.link_out.specs.declared.calls.Call.{Call as Outward}
use Rattle.link_out.specs.declared.calls.Call.TheVariants as out

abbrev gate : Settings → Peer → Result ⊤ Refusal
gate s p = gate_of (fits s lent.Nothing) (sound p)

-- ---- lists: a part of each element, where one is replaced by another with the same part
pub part_set : {A B : Type 0} (f : A → B) (l : List A) (i : ℕ) (y d : A) (k : ℕ) → f y ≡ f (get_or l i d) → f (get_or (set l i y) k d) ≡ f (get_or l k d)
part_set {A} {B} f l i y d k e =
    sym (get_or-map f (set l i y) k d) ∙ ap (λ (m : List B). get_or m k (f d)) (map-set_same f l i y d e) ∙ get_or-map f l k d

abbrev pub number_on : Channel → Reliable
number_on c = c.incoming_reliable

module _ (channel : ℕ) where
  -- what a call leaves as it was, if it reports nothing on the channel
  pub record Unreported (p q : Peer) : Type 0 where
    pub last : number_on (get_or q.channels channel no_channel) ≡ number_on (get_or p.channels channel no_channel)
    pub held : (get_or q.channels channel no_channel).held ≡ (get_or p.channels channel no_channel).held
    pub count : q.standing.channels ≡ p.standing.channels
    pub slots : q.incoming ≡ p.incoming

  -- all the channels and the slots as they were
  left_unreported : (p q : Peer) → q.channels ≡ p.channels → q.standing.channels ≡ p.standing.channels → q.incoming ≡ p.incoming → Unreported p q
  left_unreported p q e n i =
      record {
        last = ap (λ (cs : List Channel). number_on (get_or cs channel no_channel)) e;
        held = ap (λ (cs : List Channel). (get_or cs channel no_channel).held) e;
        count = n;
        slots = i;
      }

  unreported : (p : Peer) → Unreported p p
  unreported p = left_unreported p p refl refl refl

  -- ---- calls that report nothing and leave the channel's last number and the slots
  behind_unreported : (p : Peer) (g : Result ⊤ Refusal) (rest : Outcome Peer) → Unreported p rest.after → Unreported p (behind g p rest).after
  behind_unreported p g rest s = behind_has g p rest (λ (o : Outcome Peer). Unreported p o.after) (λ why. unreported p) (λ e. s)

  pub state_unreported : (s : Settings) (state : ℕ) (p : Peer) → Unreported p (sets_state s state p).after
  state_unreported s state p = behind_unreported p (gate s p) (sets_state_sound state p) (go (leb state last_state))
    where
      go : (b : Bool) → Unreported p (pick b (finished (stated state p)) (unchanged OutOfRange p)).after
      go true = left_unreported p (stated state p) refl refl refl
      go false = unreported p

  -- setting up counts a channel's outgoing numbers alone
  queued_unreported : (x : Piece) (p : Peer) → Unreported p (queued x p)
  unfolding queued queued_at
  queued_unreported x p = go (lowest outgoing (used_out p.lists))
    where
      go : (f : Option ℕ) → Unreported p (queued_in f x p)
      go (Some n) =
          record {
            last = part_set number_on p.channels x.command.channel _ no_channel channel refl;
            held = part_set (λ (c : Channel). c.held) p.channels x.command.channel _ no_channel channel refl;
            count = refl;
            slots = refl;
          }
      go None = unreported p

  all_unreported : (xs : List Piece) (p : Peer) → Unreported p (queued_all xs p)
  unfolding queued_all
  all_unreported [] p = unreported p
  all_unreported (x ∷ xs) p =
      let s = queued_unreported x p in
      let t = all_unreported xs (queued x p) in
      record { last = t.last ∙ s.last; held = t.held ∙ s.held; count = t.count ∙ s.count; slots = t.slots ∙ s.slots }

  setup_unreported : (s : Settings) (x : Piece) (p : Peer) → Unreported p (sets_up s x p).after
  setup_unreported s x p =
      behind_unreported p (gate s p) (sets_up_sound x p)
      (behind_unreported p (setup_gate x p.standing.channels (room p)) (finished (queued x p)) (queued_unreported x p))

  send_unreported : (s : Settings) (on long flags : ℕ) (p : Peer) → Unreported p (sends s on long flags p).after
  send_unreported s on long flags p =
      let xs = commands (fragment s p) on long flags p in
      behind_unreported p (gate s p) (sends_sound s on long flags p)
      (behind_unreported p (send_gate s on long p.standing) (queues_all xs p)
      (behind_unreported p (queue_gate (length xs) (room p)) (finished (queued_all xs p)) (all_unreported xs p)))

  ping_unreported : (s : Settings) (p : Peer) → Unreported p (pings s p).after
  ping_unreported s p =
      behind_unreported p (gate s p) (pings_sound p)
      (behind_unreported p (ping_gate p.standing (room p)) (finished (queued ping_piece p)) (queued_unreported ping_piece p))

  step_unreported : (s : Settings) (q : Queue) (time : ℕ) (p : Peer) → Unreported p (steps s q time p).after
  unfolding sent_as
  step_unreported s q time p = behind_unreported p (gate s p) (steps_sound q time p) (go (first (out_items (list_of q p.lists))))
    where
      go : (f : Option ℕ) → Unreported p (steps_from f q time p).after
      go None = unreported p
      go (Some n) = left_unreported p (steps_from (Some n) q time p).after refl refl refl

  by_unreported : (t : Option ℕ) (on number clock : ℕ) (p : Peer) → Unreported p (acknowledges_by t on number clock p).after
  by_unreported None on number clock p = unreported p
  by_unreported (Some sample) on number clock p = left_unreported p (acknowledges_by (Some sample) on number clock p).after refl refl refl

  acknowledge_unreported : (s : Settings) (on number sent clock : ℕ) (p : Peer) → Unreported p (acknowledges s on number sent clock p).after
  acknowledge_unreported s on number sent clock p =
      behind_unreported p (gate s p) (acknowledges_sound on number sent clock p) (by_unreported (heard_in p.standing.state clock sent) on number clock p)

  check_unreported : (s : Settings) (clock : ℕ) (p : Peer) → Unreported p (checks s clock p).after
  check_unreported s clock p = behind_unreported p (gate s p) (checks_sound clock p) (left_unreported p (checks_sound clock p).after refl refl refl)

  throttle_unreported : (s : Settings) (sample : ℕ) (p : Peer) → Unreported p (throttles s sample p).after
  throttle_unreported s sample p =
      behind_unreported p (gate s p) (throttles_sound sample p) (left_unreported p (throttles_sound sample p).after refl refl refl)

  pub receive_unreported : (s : Settings) (p : Peer) → Unreported p (receives s p).after
  receive_unreported s p = behind_unreported p (gate s p) (receives_sound p) (go (first (in_items p.lists.dispatched)))
    where
      go : (f : Option ℕ) → Unreported p (receives_from f p).after
      go None = unreported p
      go (Some n) = left_unreported p (taken n p) refl refl refl

  pub outward_unreported : (s : Settings) (a : Outward) (p : Peer) → Unreported p (calls_out s a p).after
  outward_unreported s out.Ping p = ping_unreported s p
  outward_unreported s (out.Send on long flags) p = send_unreported s on long flags p
  outward_unreported s (out.Setup x) p = setup_unreported s x p
  outward_unreported s (out.SendStep q time) p = step_unreported s q time p
  outward_unreported s (out.Acknowledgement on number sent clock) p = acknowledge_unreported s on number.0 sent clock p
  outward_unreported s (out.TimeoutCheck clock) p = check_unreported s clock p
  outward_unreported s (out.Throttle sample) p = throttle_unreported s sample p
