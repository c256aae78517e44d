-- Of two records that are the same, every call gives the same answer and leaves the same stores, and records that are the same again.
-- The argument: taken apart (laws SameLaws), two such records differ only in what no call reads; each call of AlikeOut, AlikeSent, AlikeIn and AlikePieces leaves
-- parts that are alike, and put together they are the same. A call of the sending side leaves the incoming slots and what names them (Quiet).
use Prim.Native.Nat.{ℕ, ◌<◌}
use mathlib.Core.Path.{◌≡◌, refl, ap, sym, subst, ◌∙◌}
use mathlib.Core.Bool.{Bool, true, false}
use mathlib.Core.List.{List}
use lib.ListN.{get_or}
use Rattle.numbers.specs.Pick.{pick}
use Rattle.numbers.specs.declared.refusals.Refusal.TheVariants.{OutOfRange}
use Rattle.record.proofs.Keeps.{times}
use Rattle.record.specs.Fresh.{no_incoming}
use Rattle.record.specs.declared.groups.Ids.{Ids}
use Rattle.record.specs.declared.groups.Unsequenced.{Unsequenced}
use Rattle.record.specs.declared.groups.Waiting.{Waiting}
use Rattle.record.specs.declared.groups.Incoming.{Incoming}
use Rattle.peer.specs.Damage.{sound}
use Rattle.peer.specs.Fresh.{fresh_peer}
use Rattle.peer.specs.Settings.{fit_settings}
use Rattle.peer.specs.Sounds.{Whole}
use Rattle.peer.specs.Outcome.{Outcome, finished, unchanged}
use Rattle.peer.specs.declared.settings.Settings.{Settings}
use Rattle.peer.specs.declared.defaults.Kept.{Kept}
use Rattle.peer.specs.declared.Peer.{Peer}
use Rattle.laws.specs.Same.{Same, view}
use Rattle.laws.proofs.SameViews.{same_sound}
use Rattle.laws.proofs.SameLaws.{Like, Within, same_like, same_within, like_same}
use Rattle.lifecycle.specs.Calls.{kept, resets}
use Rattle.link_out.specs.Steps.{calls_out}
use Rattle.link_out.specs.declared.calls.Call.{Call as Outward}
use Rattle.link_out.specs.declared.calls.Call.TheVariants as out
use Rattle.link_in.specs.Steps.{beside, calls_in}
use Rattle.link_in.specs.declared.calls.Call.{Call as Inward}
use Rattle.link_in.specs.declared.calls.Call.TheVariants as inw
use Rattle.link.specs.declared.calls.Call.TheVariants as call
use Rattle.promises.specs.Alike.{Alike, RespectsSame}
use Rattle.promises.proofs.Presence.{Still}
use Rattle.promises.proofs.Quiet.{begin_still, state_still, outward_still}
use Rattle.promises.proofs.AlikeOut.{Twin, ap₃, begin_twin, state_twin, throttle_twin, step_twin, setup_twin, ping_twin, send_twin}
use Rattle.promises.proofs.AlikeSent.{acknowledge_twin, check_twin}
use Rattle.promises.proofs.AlikePieces.{fragment_landed}
use Rattle.promises.proofs.AlikeIn.{Twins, Landed, receive_twins, dispatch_twins, unsequenced_landed, reliable_landed}

-- what both leave of the incoming pool, they leave alike
still_within : {p q p' q' : Peer} → Still p p' → Still q q' → Within p q → Within p' q'
still_within j k w s n =
    ap (λ (is : List Incoming). get_or is s no_incoming) j.slots
    ∙ w s (subst (λ (xs : List ℕ). 0 < times xs s) j.names n)
    ∙ sym (ap (λ (is : List Incoming). get_or is s no_incoming) k.slots)

abbrev kept_of : Ids → Unsequenced → Waiting → Kept
kept_of i g t =
    record {
      incoming_peer = i.incoming_peer;
      outgoing_session = i.outgoing_session;
      incoming_session = i.incoming_session;
      reserved = g.reserved;
      queued = t.queued;
    }

module _ (s : Settings) (datagram store second : List ℕ) (p q : Peer) (whole : Whole p) (whole' : Whole q) (e : Same p q) where
  k : Like p q
  k = same_like p q e

  w : Within p q
  w = same_within p q e

  alike : sound p ≡ sound q
  alike = same_sound p q e

  -- a call on the record alone
  beside_alike : (o r : Outcome Peer) → o.answer ≡ r.answer → Same o.after r.after
      → Alike (beside (record { peer = p; store = store; second = second }) o) (beside (record { peer = q; store = store; second = second }) r)
  beside_alike o r answer same = record { answer = answer; store = refl; second = refl; same = same }

  twin_alike : (o r : Outcome Peer) → Twin o r → Still p o.after → Still q r.after
      → Alike (beside (record { peer = p; store = store; second = second }) o) (beside (record { peer = q; store = store; second = second }) r)
  twin_alike o r t j l = beside_alike o r t.answer (like_same o.after r.after t.like (still_within j l w))

  twins_alike : (o r : Outcome Peer) → Twins o r → Alike (beside (record { peer = p; store = store; second = second }) o) (beside (record { peer = q; store = store; second = second }) r)
  twins_alike o r t = beside_alike o r t.answer (like_same o.after r.after t.like t.within)

  -- what a reset keeps is the same in both
  reset_alike : Alike (beside (record { peer = p; store = store; second = second }) (resets s p)) (beside (record { peer = q; store = store; second = second }) (resets s q))
  reset_alike = go (fit_settings s)
    where
      go : (b : Bool)
          → Alike (beside (record { peer = p; store = store; second = second }) (pick b (finished (fresh_peer s.mtu (kept p))) (unchanged OutOfRange p)))
          (beside (record { peer = q; store = store; second = second }) (pick b (finished (fresh_peer s.mtu (kept q))) (unchanged OutOfRange q)))
      go true =
          beside_alike (finished (fresh_peer s.mtu (kept p))) (finished (fresh_peer s.mtu (kept q))) refl
          (ap (λ (c : Kept). view (fresh_peer s.mtu c)) (ap₃ kept_of k.ids k.unsequenced k.waiting))
      go false = beside_alike (unchanged OutOfRange p) (unchanged OutOfRange q) refl e

  outward_twin : (c : Outward) → Twin (calls_out s c p) (calls_out s c q)
  outward_twin out.Ping = ping_twin p q k alike whole whole' s
  outward_twin (out.Send channel long flags) = send_twin p q k alike whole whole' s channel long flags
  outward_twin (out.Setup x) = setup_twin p q k alike whole whole' s x
  outward_twin (out.SendStep r time) = step_twin p q k alike (whole.outgoing ∙ sym whole'.outgoing) s r time
  outward_twin (out.Acknowledgement channel number sent clock) = acknowledge_twin p q k alike s channel number.0 sent clock
  outward_twin (out.TimeoutCheck clock) = check_twin p q k (whole.outgoing ∙ sym whole'.outgoing) clock alike s
  outward_twin (out.Throttle sample) = throttle_twin p q k alike s sample

  landed_alike : (c : Inward)
      → Landed (calls_in s c datagram (record { peer = p; store = store; second = second })) (calls_in s c datagram (record { peer = q; store = store; second = second }))
      → Alike (calls_in s c datagram (record { peer = p; store = store; second = second })) (calls_in s c datagram (record { peer = q; store = store; second = second }))
  landed_alike c t = record { answer = t.answer; store = t.store; second = t.second; same = like_same _ _ t.like t.within }

  inward_alike : (c : Inward) → Alike (calls_in s c datagram (record { peer = p; store = store; second = second })) (calls_in s c datagram (record { peer = q; store = store; second = second }))
  inward_alike (inw.UnsequencedArrival a group) =
      landed_alike (inw.UnsequencedArrival a group) (unsequenced_landed p q k w alike whole whole' store second s a group datagram)
  inward_alike (inw.ReliableArrival a) = landed_alike (inw.ReliableArrival a) (reliable_landed p q k w alike whole whole' store second s a datagram)
  inward_alike (inw.FragmentArrival a) = landed_alike (inw.FragmentArrival a) (fragment_landed p q k w alike whole whole' store second s a datagram)
  inward_alike (inw.Dispatch channel) = twins_alike _ _ (dispatch_twins p q k w alike whole s channel)
  inward_alike inw.Receive = twins_alike _ _ (receive_twins p q k w alike s)

pub respects_same : RespectsSame
respects_same s call.Reset datagram store second p q whole whole' e = reset_alike s datagram store second p q whole whole' e
respects_same s (call.Begin mtu channels) datagram store second p q whole whole' e =
    twin_alike s datagram store second p q whole whole' e _ _ (begin_twin p q (same_like p q e) (same_sound p q e) s mtu channels) (begin_still s mtu channels p)
    (begin_still s mtu channels q)
respects_same s (call.SetState state) datagram store second p q whole whole' e =
    twin_alike s datagram store second p q whole whole' e _ _ (state_twin p q (same_like p q e) (same_sound p q e) s state) (state_still s state p) (state_still s state q)
respects_same s (call.Outward c) datagram store second p q whole whole' e =
    twin_alike s datagram store second p q whole whole' e (calls_out s c p) (calls_out s c q) (outward_twin s datagram store second p q whole whole' e c) (outward_still s c p)
    (outward_still s c q)
respects_same s (call.Inward c) datagram store second p q whole whole' e = inward_alike s datagram store second p q whole whole' e c
