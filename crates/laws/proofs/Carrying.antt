-- In transit is what the packets in sent carry, on every record that the calls reach from a reset.
-- The argument: setting up fills a slot that no list names; a send step adds a slot to sent and its load to the number; an acknowledgement and a
-- timeout check take both away again; no other call touches them.
use Rattle.std.specs.Prelude.{Option, Some, None}
use Prim.Native.Nat.{ℕ, zero, suc, ◌+◌, ◌<◌, ◌%◌, ◌^◌}
use mathlib.Core.Path.{◌≡◌, refl, ap, sym, ◌∙◌, subst}
use mathlib.Core.Bool.{Bool, true, false}
use mathlib.Core.List.{List, [], ◌∷◌, ◌++◌}
use native.Mathlib.Omega.{arith}
use lib.Dec.{eqb, leb}
use lib.ListN.{length, get_or, set, replicate}
use borrow.Author.Tests.{leb-true}
use Rattle.std.specs.Prelude.{⊤, Result, Ok}
use Rattle.numbers.specs.Pick.{pick}
use Rattle.numbers.specs.Modulo.{sum, minus}
use Rattle.numbers.specs.declared.refusals.Refusal.{Refusal}
use Rattle.numbers.specs.declared.refusals.Refusal.TheVariants.{OutOfRange}
use Rattle.cells.specs.Runs.{has, first, without}
use Rattle.cells.specs.Free.{lowest}
use Rattle.cells.proofs.Lowest.{lowest_free}
use Rattle.record.specs.Lists.{outgoing, out_items}
use Rattle.record.specs.declared.outgoing.OutList.{OutList}
use Rattle.record.proofs.Views.{out_items_keep}
use Rattle.record.proofs.Keeps.{times_append, times_none, none_times}
use Rattle.record.specs.Fresh.{no_lists, no_outgoing}
use Rattle.record.specs.Damage.{used_out}
use Rattle.record.specs.Updates.{with_transit, with_reliable_list, with_outgoing_list, longer}
use Rattle.record.specs.declared.groups.Limits.{Limits}
use Rattle.record.specs.declared.groups.Lists.{Lists}
use Rattle.record.specs.declared.groups.Flow.{Flow}
use Rattle.record.specs.declared.groups.Outgoing.{Outgoing}
use Rattle.peer.specs.Damage.{sound}
use Rattle.peer.specs.Fresh.{fresh_peer}
use Rattle.peer.specs.Settings.{fit_settings}
use Rattle.peer.specs.States.{last_state}
use Rattle.peer.specs.Outcome.{Outcome, finished, unchanged}
use Rattle.peer.specs.Gate.{fits, gate_of, behind}
use Rattle.peer.specs.declared.settings.Settings.{Settings}
use Rattle.peer.specs.declared.Peer.{Peer}
use Rattle.peer.specs.declared.defaults.Kept.{Kept}
use Rattle.peer.specs.declared.gate.Lent.TheVariants as lent
use Rattle.peer.proofs.Gates.{sound_open, behind_has}
use Rattle.peer.proofs.Clauses.{Clauses, sound_clauses}
use Rattle.peer.proofs.Ranges.{mtu_high}
use Rattle.lifecycle.specs.Calls.{kept, resets, begin_fits, begun, begins_sound, begins, stated, sets_state_sound, sets_state}
use Rattle.outbox.specs.Counting.{channel_at}
use Rattle.outbox.specs.Pieces as pieces
use Rattle.outbox.specs.Pieces.{lists_with}
use Rattle.outbox.specs.declared.pieces.Piece.{Piece}
use Rattle.setup.specs.Queueing.{room, made, queued_in, queued_at, queued, queued_all}
use Rattle.setup.specs.Calls.{setup_gate, sets_up_sound, sets_up}
use Rattle.packets.specs.Packets.{whole, length_at, cut_from, cut_by}
use Rattle.packets.specs.Packets as packets
use Rattle.packets.specs.declared.Cut.{Cut}
use Rattle.packets.specs.Refusals.{send_gate, queue_gate}
use Rattle.send.specs.Calls.{fragment, commands, queues_all, sends_sound, sends}
use Rattle.send.proofs.Ranges.{length_high}
use Rattle.setup.specs.Pings.{ping_piece, ping_gate, pings_sound, pings}
use Rattle.send_step.specs.Steps.{list_of, is_acknowledged, head, sent_as}
use Rattle.send_step.specs.Calls.{steps_from, steps_sound, steps}
use Rattle.send_step.specs.declared.heads.Queue.{Queue}
use Rattle.send_step.proofs.Freeing.{sent_by, sent_by_lem, joined_items, without_sent}
use Rattle.round_trip.specs.Calls.{throttles_sound, throttles}
use Rattle.queues.specs.declared.Out.{Out}
use Rattle.queues.specs.declared.Out.TheVariants as out
use Rattle.acknowledge.specs.Removal.{spot_of}
use Rattle.acknowledge.specs.declared.removal.Spot.{Spot}
use Rattle.acknowledge.proofs.RemovalLaws.{spot_at, Placed}
use Rattle.acknowledge.specs.Calls.{heard_in, heard_at, acknowledges_by, acknowledges_sound, acknowledges}
use Rattle.overdue.specs.Overdue.{stays, back_outgoing, back_reliable, is_due, earliest_by, is_given_up, next_by, kept_in, over_in, goes_back, stays_in, step_by}
use Rattle.overdue.specs.Walking.{sent_of, turn_by, at_entry, walked, bearing}
use Rattle.overdue.specs.declared.step.Sent.{Sent}
use Rattle.overdue.specs.declared.step.Walk.{Walk}
use Rattle.overdue.specs.declared.step.After.{After}
use Rattle.timeouts.specs.Calls.{walk_of, checks_sound, checks}
use Rattle.laws.proofs.Removing.{cut_items}
use Rattle.laws.proofs.Acknowledged.{found_placed}
use Rattle.laws.proofs.Marking.{Keeps, keeps_on, set_keeps, walk_keeps}
use Rattle.laws.specs.Transit.{load, loads, limit, Carries, Reached}
use Rattle.laws.specs.Transit as transit
use Rattle.laws.proofs.Loads.{loads_append, loads-without, loads_same, set_any, loads_other, more, less}

-- ---- behind a gate
carries_behind : (g : Result ⊤ Refusal) (p : Peer) (rest : Outcome Peer) → Carries p → (g ≡ Ok tt → Carries rest.after) → Carries (behind g p rest).after
carries_behind g p rest c h = behind_has g p rest (λ (o : Outcome Peer). Carries o.after) (λ why. c) h

abbrev gate : Settings → Peer → Result ⊤ Refusal
gate s p = gate_of (fits s lent.Nothing) (sound p)

-- behind the gate of every call a record is sound
carries_gated : (s : Settings) (p : Peer) (rest : Outcome Peer) → Carries p → (sound p ≡ true → Carries rest.after)
    → Carries (behind (gate s p) p rest).after
carries_gated s p rest c h = carries_behind (gate s p) p rest c (λ e. h (sound_open (fits s lent.Nothing) (sound p) e))

-- ---- reset, begin, set state, throttle
pub same_all : {A : Type 0} (n k : ℕ) (x : A) → get_or (replicate n x) k x ≡ x
same_all zero k x = refl
same_all (suc n) zero x = refl
same_all (suc n) (suc k) x = same_all n k x

empty_low : no_outgoing.length < limit
unfolding no_outgoing
empty_low = omega arith

pub fresh_carries : (mtu : ℕ) (kept : Kept) → Carries (fresh_peer mtu kept)
unfolding fresh_peer no_lists loads
fresh_carries mtu kept = record { low = λ k. rw (same_all outgoing k no_outgoing) empty_low; is = refl }

pub reset_carries : (s : Settings) (p : Peer) → Carries p → Carries (resets s p).after
reset_carries s p c = go (fit_settings s)
  where
    go : (b : Bool) → Carries (pick b (finished (fresh_peer s.mtu (kept p))) (unchanged OutOfRange p)).after
    go true = fresh_carries s.mtu (kept p)
    go false = c

pub begin_carries : (s : Settings) (mtu count : ℕ) (p : Peer) → Carries p → Carries (begins s mtu count p).after
begin_carries s mtu count p c = carries_gated s p (begins_sound mtu count p) c (λ h. go (begin_fits mtu count p.standing.channels))
  where
    go : (b : Bool) → Carries (pick b (finished (begun mtu count p)) (unchanged OutOfRange p)).after
    go true = record { low = c.low; is = c.is }
    go false = c

pub state_carries : (s : Settings) (state : ℕ) (p : Peer) → Carries p → Carries (sets_state s state p).after
state_carries s state p c = carries_gated s p (sets_state_sound state p) c (λ h. go (leb state last_state))
  where
    go : (b : Bool) → Carries (pick b (finished (stated state p)) (unchanged OutOfRange p)).after
    go true = record { low = c.low; is = c.is }
    go false = c

pub throttle_carries : (s : Settings) (sample : ℕ) (p : Peer) → Carries p → Carries (throttles s sample p).after
throttle_carries s sample p c = carries_gated s p (throttles_sound sample p) c (λ h. record { low = c.low; is = c.is })

-- ---- setting up: the slot is one that no list names
sent_free : (l : Lists) (s : ℕ) → has (used_out l) s ≡ false → has (out_items l.sent) s ≡ false
sent_free l s e =
    none_times (out_items l.sent) s
    (omega (arith, times_none (used_out l) s e, times_append (out_items l.sent) (out_items l.send_reliable ++ out_items l.outgoing) s))

sent_stays : (l : Lists) (x : Piece) (s : ℕ) → (lists_with l x s).sent ≡ l.sent
sent_stays l x s = go (pieces.to_reliable x)
  where
    go : (b : Bool) → (pick b (with_reliable_list l (longer l.send_reliable s)) (with_outgoing_list l (longer l.outgoing s))).sent ≡ l.sent
    go true = refl
    go false = refl

queued_carries : (x : Piece) → x.length < limit → (p : Peer) → Carries p → Carries (queued x p)
unfolding queued queued_at
queued_carries x h p c = go (lowest outgoing (used_out p.lists)) refl
  where
    go : (f : Option ℕ) → lowest outgoing (used_out p.lists) ≡ f → Carries (queued_in f x p)
    go (Some s) e =
        record {
          low = λ k. set_any (λ (o : Outgoing). o.length < limit) p.outgoing s (made x p) k (c.low k) (λ z. h);
          is =
              c.is
              ∙ ap (λ (n : ℕ). n % 2 ^ 32)
              (sym
              (ap (λ (l : OutList). loads (set p.outgoing s (made x p)) (out_items l)) (sent_stays p.lists x s)
              ∙ loads_other p.outgoing s (made x p) (out_items p.lists.sent) (sent_free p.lists s (lowest_free outgoing (used_out p.lists) s e))));
        }
    go None e = c

abbrev Short : List Piece → Type 0
Short [] = Unit {0}
Short (x ∷ xs) = (x.length < limit) × Short xs

all_carries : (xs : List Piece) → Short xs → (p : Peer) → Carries p → Carries (queued_all xs p)
unfolding queued_all
all_carries [] h p c = c
all_carries (x ∷ xs) h p c = all_carries xs h.1 (queued x p) (queued_carries x h.0 p c)

pub setup_carries : (s : Settings) (x : Piece) → x.length < limit → (p : Peer) → Carries p → Carries (sets_up s x p).after
setup_carries s x h p c =
    carries_gated s p (sets_up_sound x p) c
    (λ g. carries_behind (setup_gate x p.standing.channels (room p)) p (finished (queued x p)) c (λ e. queued_carries x h p c))

pub ping_carries : (s : Settings) (p : Peer) → Carries p → Carries (pings s p).after
ping_carries s p c =
    carries_gated s p (pings_sound p) c
    (λ g. carries_behind (ping_gate p.standing (room p)) p (finished (queued ping_piece p)) c (λ e. queued_carries ping_piece (omega arith) p c))

-- no piece of a send is longer than the fragment length
cut_short : (x : Cut) (left j offset : ℕ) → x.fragment < limit → Short (cut_from x left j offset)
unfolding cut_from
cut_short x zero j offset h = tt
cut_short x (suc left) j offset h = (omega (arith, h), cut_short x left (j + 1) (offset + length_at x offset) h)

commands_short : (n channel long flags : ℕ) (p : Peer) → n < limit → Short (commands n channel long flags p)
commands_short n channel long flags p h = go (leb long n) refl
  where
    go : (b : Bool) → leb long n ≡ b
        → Short (pick b (whole flags (channel_at p.channels channel).outgoing_unreliable channel long ∷ [])
        (packets.pieces (cut_by (packets.start_of flags (channel_at p.channels channel).outgoing_reliable (channel_at p.channels channel).outgoing_unreliable) channel long n)))
    go true e = (omega (arith, h, leb-true long n e), tt)
    go false e = cut_short _ _ 0 0 h

pub send_carries : (s : Settings) (channel long flags : ℕ) (p : Peer) → Carries p → Carries (sends s channel long flags p).after
send_carries s channel long flags p c =
    carries_gated s p (sends_sound s channel long flags p) c
    (λ g.
    let xs = commands (fragment s p) channel long flags p in
    let n : fragment s p < limit = omega (arith, length_high p.flow.mtu s.checksum (mtu_high p g)) in
    carries_behind (send_gate s channel long p.standing) p (queues_all xs p) c
    (λ e.
    carries_behind (queue_gate (length xs) (room p)) p (finished (queued_all xs p)) c
    (λ o. all_carries xs (commands_short (fragment s p) channel long flags p n) p c)))

-- ---- the send step: what is attempted carries what it did
module _ (q : Queue) (s time : ℕ) (rest : List ℕ) (p : Peer) (e : out_items (list_of q p.lists) ≡ s ∷ rest) (w : Clauses p) (c : Carries p) where
  abbrev o : Outgoing
  o = head p s time

  abbrev slots : List Outgoing
  slots = set p.outgoing s o

  -- a slot of the pool with o in it carries what it did
  same_load : (k : ℕ) → load (get_or slots k no_outgoing) ≡ load (get_or p.outgoing k no_outgoing)
  same_load k =
      set_any (λ (x : Outgoing). load x ≡ load (get_or p.outgoing k no_outgoing)) p.outgoing s o k refl
      (λ z. ap (λ (j : ℕ). load (get_or p.outgoing j no_outgoing)) (sym z))

  same_loads : (xs : List ℕ) → loads slots xs ≡ loads p.outgoing xs
  same_loads = loads_same slots p.outgoing same_load

  low_still : (k : ℕ) → (get_or slots k no_outgoing).length < limit
  low_still k = set_any (λ (x : Outgoing). x.length < limit) p.outgoing s o k (c.low k) (λ z. c.low s)

  abbrev sent : List ℕ
  sent = out_items p.lists.sent

  -- the number grows by a load, or by nothing where there is no packet
  loaded : (b : Bool) (t n : ℕ) → t ≡ loads p.outgoing sent % 2 ^ 32 → pick b (sum 32 t n) t ≡ (loads p.outgoing sent + pick b n 0) % 2 ^ 32
  loaded true t n e = more t (loads p.outgoing sent) n e
  loaded false t n e = omega arith

  by_carries : (b : Bool) → Carries (sent_by b q s o p)
  unfolding loads
  by_carries true =
      record {
        low = low_still;
        is =
            loaded o.packet p.flow.transit o.length c.is
            ∙ ap (λ (n : ℕ). n % 2 ^ 32)
            (sym
            (ap (loads slots) (joined_items q p.lists s rest e w.exists w.single)
            ∙ same_loads (sent ++ (s ∷ []))
            ∙ loads_append p.outgoing sent (s ∷ [])
            ∙ ap (λ (n : ℕ). loads p.outgoing sent + n) (omega arith)));
      }
  by_carries false =
      record {
        low = low_still;
        is =
            c.is
            ∙ ap (λ (n : ℕ). n % 2 ^ 32)
            (sym (ap (λ (l : OutList). loads slots (out_items l)) (without_sent q p.lists) ∙ same_loads sent));
      }

  as_carries : Carries (sent_as q s o p)
  as_carries = subst Carries (sym (sent_by_lem q s o p)) (by_carries (is_acknowledged o))

pub step_carries : (s : Settings) (q : Queue) (time : ℕ) (p : Peer) → Carries p → Carries (steps s q time p).after
step_carries s q time p c = carries_gated s p (steps_sound q time p) c (λ h. go (sound_clauses p h) (out_items (list_of q p.lists)) refl)
  where
    go : Clauses p → (xs : List ℕ) → out_items (list_of q p.lists) ≡ xs → Carries (steps_from (first xs) q time p).after
    go w [] e = c
    go w (n ∷ rest) e = as_carries q n time rest p e w c

-- ---- the acknowledgement: what leaves sent takes its load along
module _ (sample clock : ℕ) (p : Peer) (c : Carries p) where
  abbrev slot : ℕ → Outgoing
  slot k = get_or p.outgoing (get_or (out_items p.lists.sent) k 0) no_outgoing

  unloaded : (b : Bool) (f : Flow) (n r : ℕ) → n < limit → f.transit ≡ (pick b n 0 + r) % 2 ^ 32
      → (pick b (with_transit f (minus 32 f.transit n)) f).transit ≡ r % 2 ^ 32
  unloaded true f n r h e = less f.transit r n h e
  unloaded false f n r h e = omega (arith, e)

  place_carries : (list : Out) (k : ℕ) → Placed (spot_at list k) p.lists → Carries (heard_at (spot_at list k) sample clock p).after
  place_carries out.Sent k h =
      let xs = out_items p.lists.sent in
      record {
        low = c.low;
        is =
            unloaded (slot k).packet p.flow (slot k).length (loads p.outgoing (without xs k)) (c.low (get_or xs k 0))
            (c.is ∙ ap (λ (n : ℕ). n % 2 ^ 32) (loads-without p.outgoing xs k h))
            ∙ ap (λ (ys : List ℕ). loads p.outgoing ys % 2 ^ 32) (sym (cut_items p.lists.sent k));
      }
  place_carries out.Outgoing k h = record { low = c.low; is = c.is }
  place_carries out.Reliable k h = record { low = c.low; is = c.is }

  heard_carries : (w : Option Spot) → Placed w p.lists → Carries (heard_at w sample clock p).after
  heard_carries (Some s) h = place_carries s.list s.place h
  heard_carries None h = record { low = c.low; is = c.is }

pub acknowledge_carries : (s : Settings) (channel number sent clock : ℕ) (p : Peer) → Carries p → Carries (acknowledges s channel number sent clock p).after
acknowledge_carries s channel number sent clock p c =
    carries_gated s p (acknowledges_sound channel number sent clock p) c (λ h. go (heard_in p.standing.state clock sent))
  where
    go : (t : Option ℕ) → Carries (acknowledges_by t channel number clock p).after
    go None = c
    go (Some sample) =
        heard_carries sample clock p c (spot_of p.outgoing number channel p.lists) (found_placed p.outgoing number channel p.lists)

-- ---- the timeout check: a step leaves the number and the command, or takes away the command's load with it
data Steps (w : Walk) (o : Sent) (r : After) : Type 0 where
  keeps : r.mark ≡ stays → r.walk.transit ≡ w.transit → Steps w o r
  moves : eqb r.mark stays ≡ false → r.walk.transit ≡ pick o.packet (minus 32 w.transit o.length) w.transit → Steps w o r

step_steps : (l : Limits) (clock : ℕ) (w : Walk) (o : Sent) → Steps w o (step_by l clock w o)
step_steps l clock w o =
    let e = earliest_by w.earliest o.sent in
    go (next_by w o) e w.over (is_due clock o) (is_given_up l clock e o.attempts) (back o.packet)
  where
    back : (b : Bool) → eqb (pick b back_reliable back_outgoing) stays ≡ false
    back true = refl
    back false = refl

    go : (n e : ℕ) (a b c : Bool) → eqb (pick o.packet back_reliable back_outgoing) stays ≡ false
        → Steps w o (pick a (stays_in w o) (pick b (pick c (stays_in (over_in w n e) o) (goes_back w n e o)) (stays_in (kept_in w n) o)))
    go n e true b c h = keeps refl refl
    go n e false true true h = keeps refl refl
    go n e false true false h = moves h refl
    go n e false false c h = keeps refl refl

-- one turn of the walk; r is what those carry that stayed before, and `then` what the rest of the walk comes to
turn_carries : (base : List Outgoing) (s : ℕ) (ss ms : List ℕ) (r : ℕ) (w : Walk) (o : Sent) (a : After) (end : ℕ) → Steps w o a
    → pick o.packet o.length 0 ≡ load (get_or base s no_outgoing) → o.length < limit
    → w.transit ≡ (r + (load (get_or base s no_outgoing) + loads base ss)) % 2 ^ 32
    → ((k : ℕ) → a.walk.transit ≡ (k + loads base ss) % 2 ^ 32 → end ≡ (k + loads base (bearing stays ms ss)) % 2 ^ 32)
    → end ≡ (r + loads base (bearing stays (a.mark ∷ ms) (s ∷ ss))) % 2 ^ 32
unfolding bearing loads
turn_carries base s ss ms r w o a end (keeps m t) l low e then =
    let n = load (get_or base s no_outgoing) in
    let k : a.walk.transit ≡ (r + n + loads base ss) % 2 ^ 32 = t ∙ e ∙ ap (λ (x : ℕ). x % 2 ^ 32) (omega arith) in
    rw m (then (r + n) k ∙ ap (λ (x : ℕ). x % 2 ^ 32) (omega arith))
turn_carries base s ss ms r w o a end (moves m t) l low e then = rw m (then r (t ∙ go o.packet l))
  where
    go : (b : Bool) → pick b o.length 0 ≡ load (get_or base s no_outgoing)
        → pick b (minus 32 w.transit o.length) w.transit ≡ (r + loads base ss) % 2 ^ 32
    go true h =
        less w.transit (r + loads base ss) o.length low
        (e ∙ ap (λ (x : ℕ). x % 2 ^ 32) (omega (arith, h)))
    go false h = e ∙ ap (λ (x : ℕ). x % 2 ^ 32) (omega (arith, h))

walk_carries : (base : List Outgoing) → ((k : ℕ) → (get_or base k no_outgoing).length < limit)
    → (l : Limits) (clock : ℕ) (xs : List ℕ) (w : Walk) (now : List Outgoing) (r : ℕ)
    → ((k : ℕ) → Keeps (get_or base k no_outgoing) (get_or now k no_outgoing)) → w.transit ≡ (r + loads base xs) % 2 ^ 32
    → (walked l clock xs w now).walk.transit ≡ (r + loads base (bearing stays (walked l clock xs w now).marks xs)) % 2 ^ 32
unfolding walked bearing loads
walk_carries base low l clock [] w now r same e = e
walk_carries base low l clock (s ∷ ss) w now r same e =
    let o = get_or now s no_outgoing in
    let t = turn_by l clock w o in
    let next = set now s t.slot in
    turn_carries base s ss (walked l clock ss t.walk next).marks r w (sent_of o) (step_by l clock w (sent_of o))
    (walked l clock ss t.walk next).walk.transit (step_steps l clock w (sent_of o)) (ap load (same s))
    (subst (λ (x : Outgoing). x.length < limit) (sym (same s)) (low s)) e
    (λ k h.
    walk_carries base low l clock ss t.walk next k
    (λ j. keeps_on (get_or base j no_outgoing) (get_or now j no_outgoing) (get_or next j no_outgoing) (same j) (set_keeps now s t.slot.timeout j)) h)

pub check_carries : (s : Settings) (clock : ℕ) (p : Peer) → Carries p → Carries (checks s clock p).after
check_carries s clock p c = carries_gated s p (checks_sound clock p) c (λ h. go (sound_clauses p h))
  where
    go : Clauses p → Carries (checks_sound clock p).after
    go w =
        let xs = out_items p.lists.sent in
        let start = at_entry p.times p.loss p.flow in
        let keep = walk_keeps p.limits clock xs start p.outgoing in
        let marks = (walk_of clock p).marks in
        record {
          low = λ k. subst (λ (o : Outgoing). o.length < limit) (sym (keep k)) (c.low k);
          is =
              walk_carries p.outgoing c.low p.limits clock xs start p.outgoing 0 (λ k. refl)
              (c.is ∙ ap (λ (x : ℕ). x % 2 ^ 32) (omega arith))
              ∙ ap (λ (x : ℕ). x % 2 ^ 32)
              (omega (
                arith,
                loads_same (walk_of clock p).slots p.outgoing (λ k. ap load (keep k)) (bearing stays marks xs),
                ap (loads (walk_of clock p).slots) (out_items_keep p.lists.sent (bearing stays marks xs)),
              ));
        }

-- ---- on every record reached
pub in_transit : (p : Peer) → Reached p → Carries p
in_transit p (transit.fresh mtu kept) = fresh_carries mtu kept
in_transit p (transit.reset s q r) = reset_carries s q (in_transit q r)
in_transit p (transit.begin s mtu count q r) = begin_carries s mtu count q (in_transit q r)
in_transit p (transit.state s state q r) = state_carries s state q (in_transit q r)
in_transit p (transit.setup s x h q r) = setup_carries s x h q (in_transit q r)
in_transit p (transit.send s channel long flags q r) = send_carries s channel long flags q (in_transit q r)
in_transit p (transit.ping s q r) = ping_carries s q (in_transit q r)
in_transit p (transit.step s k time q r) = step_carries s k time q (in_transit q r)
in_transit p (transit.acknowledge s channel number sent clock q r) = acknowledge_carries s channel number sent clock q (in_transit q r)
in_transit p (transit.check s clock q r) = check_carries s clock q (in_transit q r)
in_transit p (transit.throttle s sample q r) = throttle_carries s sample q (in_transit q r)
