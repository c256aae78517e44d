-- Nothing that is ready stays held. The argument: along a run each channel's list stands in the order of distance from its last number, each slot behind the last
-- number of the one before, and none is complete and next. What is stored takes numbers that nothing held has taken, so it takes its place in that order, and what
-- then is next goes at once; a piece that leaves some remaining leaves its block unready; the written slot was free, so that no list names it; no other call
-- changes a channel's last number or what it holds, but reset and begin, which make the channels new.
use Rattle.std.specs.Prelude.{Option}
use Prim.Native.Nat.{ℕ, ◌≤◌, ◌<◌}
use mathlib.Core.Path.{◌≡◌, refl, ap, sym, subst}
use mathlib.Core.Bool.{Bool, true, false, not}
use mathlib.Core.List.{List, [], ◌∷◌}
use native.Mathlib.Omega.{arith}
use lib.Dec.{eqb, ltb}
use lib.ListN.{length, get_or, replicate}
use borrow.Author.Tests.{eqb-true, eqb-false}
use Rattle.numbers.specs.Pick.{pick}
use Rattle.numbers.specs.declared.counters.Group.{Group}
use Rattle.numbers.specs.declared.refusals.Refusal.TheVariants.{OutOfRange}
use Rattle.record.specs.Lists.{in_items}
use Rattle.record.specs.Sizes.{channels}
use Rattle.record.specs.Fresh.{no_channel, no_incoming}
use Rattle.record.specs.declared.groups.Channel.{Channel}
use Rattle.record.specs.declared.groups.Incoming.{Incoming}
use Rattle.blocks.specs.Blocks.{block_of}
use Rattle.peer.specs.Damage.{sound}
use Rattle.peer.specs.Gate.{fits, gate_of}
use Rattle.peer.specs.Sounds.{Whole}
use Rattle.peer.specs.Settings.{fit_settings}
use Rattle.peer.specs.Fresh.{fresh_peer}
use Rattle.peer.specs.Outcome.{State, Outcome, finished, unchanged}
use Rattle.peer.specs.declared.settings.Settings.{Settings}
use Rattle.peer.specs.declared.Peer.{Peer}
use Rattle.peer.specs.declared.defaults.Kept.{Kept}
use Rattle.peer.specs.declared.gate.Lent.TheVariants as lent
use Rattle.peer.proofs.Gates.{sound_open, behind_has}
use Rattle.peer.proofs.Clauses.{at_all}
use Rattle.lifecycle.specs.Calls.{kept, begin_fits, begun, begins_sound, begins, sets_state, resets}
use Rattle.dispatch.specs.Dispatching.{follows}
use Rattle.dispatch.specs.Calls.{dispatch_gate, dispatched_on, dispatches_sound, dispatches}
use Rattle.dispatch.proofs.Sound.{below_count}
use Rattle.receive.specs.Calls.{receives}
use Rattle.arrival.specs.Storing.{delivered}
use Rattle.arrival.specs.Arrivals.{arrived_slot, room_of, stored_at}
use Rattle.arrival.specs.declared.Arrival.{Arrival}
use Rattle.arrival.specs.declared.Fate.{Fate}
use Rattle.arrival.specs.declared.Fate.TheVariants as fate
use Rattle.arrival.proofs.Admitted.{Admitted}
use Rattle.arrive_reliable.specs.Holding.{number_distance, holds, farthest, is_passed}
use Rattle.arrive_unsequenced.specs.Calls.{judged_on, arrives_unsequenced}
use Rattle.arrive_reliable.specs.Calls.{channel_of, fate_of, fate_on, reliable_after, arrives_reliable}
use Rattle.arrive_fragment.specs.Calls.{opened_on, piece_on, arrives_fragment}
use Rattle.arrive_fragment.specs.declared.Piece.{Piece}
use Rattle.laws.proofs.Unsequenced.{unsequenced_has, stored_free}
use Rattle.laws.proofs.Reliable.{reliable_has, held_free, between_whole, between-sound, left_dispatched}
use Rattle.laws.proofs.Fates.{FirstPiece, LaterPiece, first_piece, later_piece, fields_fit_lem}
use Rattle.laws.proofs.Fragments.{fragment_has, opened_pieced_whole, opened_pieced_sound, pieced_whole, pieced_sound}
use Rattle.laws.proofs.Carrying.{same_all}
use Rattle.link_out.specs.Steps.{calls_out}
use Rattle.link.specs.Steps.{calls}
use Rattle.link.specs.Runs.{Asked, comes_to, run, reset_state}
use Rattle.link_in.specs.declared.calls.Call.TheVariants as inw
use Rattle.link.specs.declared.calls.Call.{Call}
use Rattle.link.specs.declared.calls.Call.TheVariants as call
use Rattle.promises.specs.Held.{NoneReady, Numbered, AllNumbered, is_free, Begins, GivesFree, GivenOnce, NothingStuck}
use Rattle.promises.proofs.Picks.{picked}
use Rattle.promises.proofs.Sounding.{fresh_whole, call_sounds}
use Rattle.promises.proofs.Unreported.{state_unreported, outward_unreported, receive_unreported}
use Rattle.promises.proofs.Reporting.{last_on}
use Rattle.promises.proofs.HeldLaws.{neither_first, Rests, span_of, climbs_rising, unnamed_same}
use Rattle.promises.proofs.HeldWays.{on, Orderly, same_named, unreported_orderly, dispatched_orderly, unnamed, longer, Ways, joined_ways, piece_orderly, later_unnamed}

-- ---- an arrival that is not passed over is past the last number
pub passed_past : (slots : List Incoming) (c : Channel) (n : ℕ) → is_passed slots c n ≡ false → 0 < number_distance c.incoming_reliable.0 n
passed_past slots c n e =
    let d = number_distance c.incoming_reliable.0 n in
    omega (arith, eqb-false d 0 (neither_first (eqb d 0) (pick (ltb farthest d) true (holds slots (in_items c.held) n)) e))

stored_new : (b : Bool) (room : Fate) (s : ℕ) → fate_of b room ≡ fate.Stored s → b ≡ false
stored_new true room s e = let z : ◌≡◌ {A = ℕ} 0 1 = cc in absurd (omega arith)
stored_new false room s e = refl

-- ---- a dispatch, an unsequenced arrival
module _ (channel : ℕ) where
  dispatch_orderly : (s : Settings) (i : ℕ) (p : Peer) → Whole p → Orderly channel p → Orderly channel (dispatches s i p).after
  dispatch_orderly s i p w k =
      behind_has (gate_of (fits s lent.Nothing) (sound p)) p (dispatches_sound i p) Done (λ why. k)
      (λ e. behind_has (dispatch_gate i p.standing) p (finished (dispatched_on i p)) Done (λ why. k)
      (λ own. dispatched_orderly channel i p w (sound_open (fits s lent.Nothing) (sound p) e) (below_count i p.standing own)
      (λ is h. (k h).stands) (λ n. k)))
    where
      Done : Outcome Peer → Type 0
      Done o = Orderly channel o.after

  unsequenced_orderly : (s : Settings) (a : Arrival) (group : Group) (datagram : List ℕ) (x : State) → Whole x.peer → Orderly channel x.peer
      → Orderly channel (arrives_unsequenced s a group datagram x).after.peer
  unsequenced_orderly s a group datagram x w k =
      unsequenced_has s a group datagram x (λ (o : Outcome State). Orderly channel o.after.peer)
      (λ why. k)
      (λ good e. k)
      (λ good e. k)
      (λ n good long may e h.
      same_named channel x.peer (stored_at n a datagram x (delivered x.peer.lists n) (judged_on s group x.peer).unsequenced x.peer.channels).peer
      refl refl refl
      (λ h. unnamed_same x.peer.incoming n (arrived_slot a) (in_items (on channel x.peer).held)
      (unnamed channel x.peer n w good (stored_free s a group datagram x n e) h))
      k h)

-- ---- a reliable arrival that is stored
module _ (s : Settings) (a : Arrival) (datagram : List ℕ) (x : State) (n : ℕ) (low : a.number.0 < 65536)
    (w : Whole x.peer) (good : sound x.peer ≡ true) (may : Admitted a x.peer.standing (length datagram))
    (e : fate_on s a x.peer ≡ fate.Stored n) (apart : is_free x a.channel a.number.0 1 ≡ true) where
  abbrev p : Peer
  p = x.peer

  ways : (channel : ℕ) → Orderly channel p → Ways channel a.channel n (longer p a.channel n (arrived_slot a) w good may.on (held_free s a datagram x n e))
  ways channel =
      joined_ways p a.channel n (arrived_slot a) w good may.on (held_free s a datagram x n e) channel low
      (passed_past p.incoming (channel_of a p) a.number.0
      (stored_new (is_passed p.incoming (channel_of a p) a.number.0) (room_of s p) n e)) apart

  pub stored_orderly : (channel : ℕ) → Orderly channel p → Orderly channel (reliable_after (fate.Stored n) a datagram x).peer
  stored_orderly channel k =
      let free = held_free s a datagram x n e in
      subst (Orderly channel) (sym (left_dispatched a datagram x n w good may free))
      (dispatched_orderly channel a.channel _ (between_whole a datagram x n w good may free) (between-sound a datagram x n w good may free) may.on
      (ways channel k).own (ways channel k).other)

-- ---- a piece that is stored
module _ (s : Settings) (a : Piece) (p : Peer) (n : ℕ) (w : Whole p) (good : sound p ≡ true) (here : a.channel < p.standing.channels)
    (channel : ℕ) (k : Orderly channel p) where
  later_orderly : LaterPiece s a p n → Orderly channel (piece_on n a p)
  later_orderly f =
      piece_orderly channel n a p (pieced_whole s a p n w good here f) (pieced_sound s a p n w good here f) here
      (record {
        own = λ is h. (k h).stands;
        others = λ is h t named m. (k h).waits t named;
        other = λ m. k;
        unnamed = λ m h. later_unnamed channel a p n w good here f.found.named m h;
      })

  -- a block takes as many numbers as it has pieces
  abbrev slot : Incoming
  slot = block_of a.byte a.channel a.start a.fragment

  block_span : FirstPiece s a p n → span_of slot ≡ a.fragment.count
  block_span f = go (eqb a.fragment.count 0) refl (fields_fit_lem s.packet a.fragment f.fit).some
    where
      go : (b : Bool) → eqb a.fragment.count 0 ≡ b → 1 ≤ a.fragment.count → pick b 1 a.fragment.count ≡ a.fragment.count
      go true t some = absurd (omega (arith, some, eqb-true a.fragment.count 0 t))
      go false t some = refl

  first_orderly : (f : FirstPiece s a p n) (store second : List ℕ) → a.start.0 < 65536
      → is_free (record { peer = p; store = store; second = second }) a.channel a.start.0 a.fragment.count ≡ true
      → Orderly channel (piece_on n a (opened_on n a p))
  first_orderly f store second low apart =
      let x : State = record { peer = p; store = store; second = second } in
      let old = get_or p.channels a.channel no_channel in
      let ways = joined_ways p a.channel n slot w good here f.free channel low (passed_past p.incoming old a.start.0 f.new)
      (subst (λ (m : ℕ). is_free x a.channel a.start.0 m ≡ true) (sym (block_span f)) apart) k in
      piece_orderly channel n a (opened_on n a p) (opened_pieced_whole s a p n w good here f) (opened_pieced_sound s a p n w good here f) here ways

-- ---- each call, and a run
module _ (channel : ℕ) where
  anew : (slots : List Incoming) → let c = get_or (replicate channels no_channel) channel no_channel in
      Rests slots c.incoming_reliable.0 (in_items c.held)
  unfolding no_channel
  anew slots =
      subst (λ (c : Channel). Rests slots c.incoming_reliable.0 (in_items c.held)) (sym (same_all channels channel no_channel))
      (record { stands = record { low = omega arith; climbs = tt }; waits = λ s h. absurd (omega (arith, h)) })

  pub fresh_orderly : (mtu : ℕ) (k : Kept) → Orderly channel (fresh_peer mtu k)
  unfolding fresh_peer
  fresh_orderly mtu k h = anew _

  abbrev Left : Outcome Peer → Type 0
  Left o = Orderly channel o.after

  reset_orderly : (s : Settings) (p : Peer) → Orderly channel p → Orderly channel (resets s p).after
  reset_orderly s p k =
      picked Left (fit_settings s) (finished (fresh_peer s.mtu (kept p))) (unchanged OutOfRange p) (fresh_orderly s.mtu (kept p)) k

  begin_orderly : (s : Settings) (mtu count : ℕ) (p : Peer) → Orderly channel p → Orderly channel (begins s mtu count p).after
  begin_orderly s mtu count p k =
      behind_has (gate_of (fits s lent.Nothing) (sound p)) p (begins_sound mtu count p) Left (λ why. k)
      (λ e. picked Left (begin_fits mtu count p.standing.channels) (finished (begun mtu count p)) (unchanged OutOfRange p)
      (λ h. anew p.incoming) k)

  -- what is stored takes free numbers
  abbrev Given : Call → State → Outcome State → Type 0
  Given a x o = GivesFree a x o.answer → Orderly channel o.after.peer

  reliable_orderly : (s : Settings) (a : Arrival) (datagram : List ℕ) (x : State) → a.number.0 < 65536 → Whole x.peer → Orderly channel x.peer
      → Given (call.Inward (inw.ReliableArrival a)) x (arrives_reliable s a datagram x)
  reliable_orderly s a datagram x low w k =
      reliable_has s a datagram x (Given (call.Inward (inw.ReliableArrival a)) x) (λ why g. k) (λ good e g. k)
      (λ n good long may e g. stored_orderly s a datagram x n low w good may e (g refl) channel k)

  fragment_orderly : (s : Settings) (a : Piece) (datagram : List ℕ) (x : State) → a.start.0 < 65536 → Whole x.peer → Orderly channel x.peer
      → Given (call.Inward (inw.FragmentArrival a)) x (arrives_fragment s a datagram x)
  fragment_orderly s a datagram x low w k =
      fragment_has s a datagram x (Given (call.Inward (inw.FragmentArrival a)) x) (λ why g. k) (λ l e g. k)
      (λ n l e g.
      let f = first_piece s a x.peer n e in
      first_orderly s a x.peer n w l.good l.may.on channel k f x.store x.second low
      (subst (λ (t : Option ℕ). Begins t (is_free x a.channel a.start.0 a.fragment.count ≡ true)) f.none (g refl)))
      (λ n l e g. later_orderly s a x.peer n w l.good l.may.on channel k (later_piece s a x.peer n e))

  pub call_orderly : (a : Call) (s : Settings) (datagram : List ℕ) (x : State) → Numbered a → Whole x.peer → Orderly channel x.peer
      → Given a x (calls s a datagram x)
  call_orderly call.Reset s datagram x m w k g = reset_orderly s x.peer k
  call_orderly (call.Begin mtu count) s datagram x m w k g = begin_orderly s mtu count x.peer k
  call_orderly (call.SetState state) s datagram x m w k g =
      unreported_orderly channel x.peer (sets_state s state x.peer).after (state_unreported channel s state x.peer) k
  call_orderly (call.Outward a) s datagram x m w k g =
      unreported_orderly channel x.peer (calls_out s a x.peer).after (outward_unreported channel s a x.peer) k
  call_orderly (call.Inward (inw.UnsequencedArrival a group)) s datagram x m w k g = unsequenced_orderly channel s a group datagram x w k
  call_orderly (call.Inward (inw.ReliableArrival a)) s datagram x m w k g = reliable_orderly s a datagram x m w k g
  call_orderly (call.Inward (inw.FragmentArrival a)) s datagram x m w k g = fragment_orderly s a datagram x m w k g
  call_orderly (call.Inward (inw.Dispatch i)) s datagram x m w k g = dispatch_orderly channel s i x.peer w k
  call_orderly (call.Inward inw.Receive) s datagram x m w k g =
      unreported_orderly channel x.peer (receives s x.peer).after (receive_unreported channel s x.peer) k

  pub run_orderly : (calls : List Asked) (x : State) → AllNumbered calls → GivenOnce calls x → Whole x.peer → Orderly channel x.peer
      → Orderly channel (run calls x).end.peer
  unfolding run
  run_orderly [] x m g w k = k
  run_orderly (a ∷ rest) x m g w k =
      run_orderly rest (comes_to a x).after m.1 g.1
      ((call_sounds a.settings a.call a.datagram x.store x.second).whole x.peer w)
      (call_orderly a.call a.settings a.datagram x m.0 w k g.0)

  pub none_ready : (x : State) → Orderly channel x.peer → channel < x.peer.standing.channels → NoneReady x channel
  none_ready x k h =
      let p = x.peer in
      let r = k h in
      let ss = in_items (get_or p.channels channel no_channel).held in
      record {
        none =
            at_all (λ (s : ℕ). not (follows (last_on channel p) (get_or p.incoming s no_incoming))) ss
            (λ s named. ap not (r.waits s named));
        order = climbs_rising p.incoming (last_on channel p) 0 ss r.stands.climbs;
      }

pub nothing_stuck : NothingStuck
nothing_stuck mtu kept store second calls channel m g h =
    let x = reset_state mtu kept store second in
    none_ready channel (run calls x).end (run_orderly channel calls x m g (fresh_whole mtu kept) (fresh_orderly channel mtu kept)) h
