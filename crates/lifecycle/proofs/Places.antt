-- What the numbers that a reset or a begin writes make of the record: channels of 0, what is kept, the ids, the limits, the reserved
-- number; then the writes one after the other. The argument: places' `numbers_put` and `put_channels`; a record of zeros is computed.
use Prim.Native.Nat.{ℕ, ◌%◌, ◌<◌}
use mathlib.Core.Path.{◌≡◌, refl, ap, ◌∙◌}
use mathlib.Core.List.{List, [], ◌∷◌}
use native.Mathlib.Nat.{mod-eq_of_lt}
use native.Mathlib.Omega.{arith}
use lib.ListN.{length, get_or, replicate, length-replicate}
use lib.Seq.{sets, paste}
use Rattle.wire.specs.Decoded.{decoded}
use Rattle.record.specs.Fresh.{no_lists, no_channel, no_outgoing, no_incoming}
use Rattle.record.specs.Updates.{with_count, with_mtu}
use Rattle.record.specs.declared.groups.Limits.{Limits}
use Rattle.pool.specs.Rows.{rows_from}
use Rattle.pool.specs.Slots.{slot_from, in_slot_from}
use Rattle.peer.specs.Fresh.{fresh_ids, fresh_peer}
use Rattle.peer.specs.Updates.{with_standing, with_throttling, with_flow, with_unsequenced, with_waiting, with_channels}
use Rattle.peer.specs.declared.Peer.{Peer}
use Rattle.peer.specs.declared.defaults.Kept.{Kept}
use Rattle.places.specs.Whole.{sizes, numbers, parts, made, whole, channel_from, channels_from}
use Rattle.places.specs.Updates.{with_trips}
use Rattle.places.proofs.Written.{place, numbers_put}
use Rattle.places.proofs.ChannelLaws.{put_channels}
use Rattle.lifecycle.specs.Calls.{kept, begun}
use Rattle.lifecycle.specs.Updates.{with_ids, with_limits, with_reserved}

no_channels : channels_from (replicate 136 0) ≡ replicate 8 no_channel
unfolding rows_from channel_from no_channel
no_channels = refl

pub cleared_channels : (ws : List ℕ) → length ws ≡ 1236 → whole (paste ws 194 (replicate 136 0) 136) ≡ with_channels (whole ws) (replicate 8 no_channel)
cleared_channels ws l = put_channels ws l (replicate 136 0) (length-replicate {A = ℕ} 136 0) ∙ ap (with_channels (whole ws)) no_channels

-- ---- the groups that only a reset reads or writes
pub kept_is : (ws : List ℕ) (a b c d : ℕ) → a ≡ get_or ws 1 0 % 65536 → b ≡ get_or ws 3 0 % 256 → c ≡ get_or ws 4 0 % 256 → d ≡ get_or ws 156 0 % 65536
    → kept (whole ws) ≡ record { incoming_peer = a; outgoing_session = b; incoming_session = c; reserved = d; queued = get_or ws 193 0 }
unfolding made parts numbers sizes
kept_is ws a b c d ea eb ec ed = rw (ea, eb, ec, ed)

low : (n : ℕ) (r x : ℕ) → r ≡ x → x < n → r % n ≡ x
low n r x e h = ap (λ (k : ℕ). k % n) e ∙ mod-eq_of_lt h

module _ (ws : List ℕ) (l : length ws ≡ 1236) where
  pub put_ids_lem : (k : Kept) (a b c d : ℕ) → a ≡ 4095 → b ≡ k.incoming_peer → k.incoming_peer < 65536 → c ≡ k.outgoing_session → k.outgoing_session < 256
      → d ≡ k.incoming_session → k.incoming_session < 256 → whole (sets ws 0 (a ∷ b ∷ 0 ∷ c ∷ d ∷ [])) ≡ with_ids (whole ws) (fresh_ids k)
  unfolding made parts numbers sizes place
  put_ids_lem k a b c d ea eb hb ec hc ed hd =
      numbers_put ws 0 43 0 0 (a ∷ b ∷ 0 ∷ c ∷ d ∷ []) l (omega arith) refl refl (omega arith) (omega arith)
      ∙ rw (ea, low 65536 b k.incoming_peer eb hb, low 256 c k.outgoing_session ec hc, low 256 d k.incoming_session ed hd)

  pub put_limits_lem : (x : Limits) → whole (sets ws 29 (x.ping ∷ x.timeout ∷ x.minimum ∷ x.maximum ∷ [])) ≡ with_limits (whole ws) x
  unfolding made parts numbers sizes place
  put_limits_lem x = numbers_put ws 0 43 29 29 (x.ping ∷ x.timeout ∷ x.minimum ∷ x.maximum ∷ []) l (omega arith) refl refl (omega arith) (omega arith)

  pub put_reserved_lem : (x r : ℕ) → r ≡ x → x < 65536 → whole (sets ws 156 (r ∷ [])) ≡ with_unsequenced (whole ws) (with_reserved (whole ws).unsequenced x)
  unfolding made parts numbers sizes place
  put_reserved_lem x r e h = numbers_put ws 5 4 1 156 (r ∷ []) l (omega arith) refl refl (omega arith) (omega arith) ∙ rw (low 65536 r x e h)

-- ---- one after the other
module _ (mtu : ℕ) (k : Kept) where
  abbrev fresh : Peer
  fresh = fresh_peer mtu k

  -- what a reset writes, put into a record
  abbrev refreshed : Peer → Peer
  refreshed p =
      let q = with_flow (with_trips (with_limits (with_throttling (with_ids p (fresh_ids k)) fresh.throttling) fresh.limits) fresh.trips) fresh.flow in
      with_waiting (with_unsequenced q (with_reserved q.unsequenced k.reserved)) fresh.waiting

  of_zeros : refreshed (whole (replicate 1236 0)) ≡ fresh
  unfolding made parts numbers sizes rows_from slot_from in_slot_from channel_from decoded no_lists no_channel no_outgoing no_incoming fresh_peer
  of_zeros = refl

  pub refreshes : (ws : List ℕ) (t u v w x y z : Peer) → ws ≡ replicate 1236 0 → t ≡ with_ids (whole ws) (fresh_ids k) → u ≡ with_throttling t fresh.throttling
      → v ≡ with_limits u fresh.limits → w ≡ with_trips v fresh.trips → x ≡ with_flow w fresh.flow → y ≡ with_unsequenced x (with_reserved x.unsequenced k.reserved)
      → z ≡ with_waiting y fresh.waiting → z ≡ fresh
  refreshes ws t u v w x y z o a b c d e f g =
      g
      ∙ ap (λ (p : Peer). with_waiting p fresh.waiting)
      (f
      ∙ ap (λ (p : Peer). with_unsequenced p (with_reserved p.unsequenced k.reserved))
      (e
      ∙ ap (λ (p : Peer). with_flow p fresh.flow)
      (d ∙ ap (λ (p : Peer). with_trips p fresh.trips) (c ∙ ap (λ (p : Peer). with_limits p fresh.limits) (b ∙ ap (λ (p : Peer). with_throttling p fresh.throttling) a)))))
      ∙ ap (λ (l : List ℕ). refreshed (whole l)) o
      ∙ of_zeros

pub begins_by : (mtu count : ℕ) (p v w z : Peer) → v ≡ with_standing p (with_count p.standing count) → w ≡ with_flow v (with_mtu v.flow mtu) → z ≡ with_channels w (replicate 8 no_channel)
    → z ≡ begun mtu count p
begins_by mtu count p v w z a b c =
    c ∙ ap (λ (k : Peer). with_channels k (replicate 8 no_channel)) (b ∙ ap (λ (k : Peer). with_flow k (with_mtu k.flow mtu)) a)
