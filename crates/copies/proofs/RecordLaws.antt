-- The whole record, read group by group and written group by group.
-- The argument: groups of numbers are `numbers_put`; every group is the record's own, or is replaced, and the record computes.
use Prim.Native.Nat.{ℕ, ◌%◌, ◌<◌}
use mathlib.Core.Path.{◌≡◌, refl, ap, ◌∙◌}
use mathlib.Core.List.{List, [], ◌∷◌}
use native.Mathlib.Omega.{arith}
use lib.ListN.{length, get_or}
use lib.Seq.{sets}
use Rattle.lists.specs.Rows.{section}
use Rattle.record.specs.declared.groups.Bandwidth.{Bandwidth}
use Rattle.record.specs.declared.groups.Channel.{Channel}
use Rattle.record.specs.declared.groups.Flow.{Flow}
use Rattle.record.specs.declared.groups.Unsequenced.{Unsequenced}
use Rattle.record.specs.declared.groups.Ids.{Ids}
use Rattle.record.specs.declared.groups.Incoming.{Incoming}
use Rattle.record.specs.declared.groups.Marks.{Marks}
use Rattle.record.specs.declared.groups.Limits.{Limits}
use Rattle.record.specs.declared.groups.Lists.{Lists}
use Rattle.record.specs.declared.groups.Loss.{Loss}
use Rattle.record.specs.declared.groups.Outgoing.{Outgoing}
use Rattle.record.specs.declared.groups.Standing.{Standing}
use Rattle.record.specs.declared.groups.Throttling.{Throttling}
use Rattle.record.specs.declared.groups.Times.{Times}
use Rattle.record.specs.declared.groups.Totals.{Totals}
use Rattle.record.specs.declared.groups.Trips.{Trips}
use Rattle.record.specs.declared.groups.Waiting.{Waiting}
use Rattle.pool.specs.Slots.{slot_from, in_slot_from}
use Rattle.pool.proofs.Rows.{rows_length}
use Rattle.peer.specs.Updates.{rebuilt, with_standing, with_totals, with_times, with_loss, with_throttling, with_flow, with_lists, with_unsequenced, with_waiting, with_channels, with_outgoing, with_marks}
use Rattle.peer.specs.declared.Peer.{Peer}
use Rattle.places.specs.Updates.{with_trips, with_incoming}
use Rattle.places.specs.Whole.{sizes, numbers, parts, made, whole}
use Rattle.places.proofs.Written.{place, numbers_put}
use Rattle.places.proofs.GroupLaws.{low}
use Rattle.places.proofs.PoolLaws.{pool_is, in_pool_is}
use Rattle.places.specs.Updates.{with_fixed}

-- ---- lengths
pub outgoing-length : (ws : List ℕ) → length (whole ws).outgoing ≡ 32
outgoing-length ws = ap length (pool_is ws) ∙ rows_length slot_from 26 32 (section 330 832 ws)

pub incoming-length : (ws : List ℕ) → length (whole ws).incoming ≡ 12
incoming-length ws = ap length (in_pool_is ws) ∙ rows_length in_slot_from 6 12 (section 1162 72 ws)

-- ---- read
pub ids_made : (ws : List ℕ) (a b c d : ℕ) → a ≡ get_or ws 0 0 % 65536 → b ≡ get_or ws 1 0 % 65536 → c ≡ get_or ws 3 0 % 256 → d ≡ get_or ws 4 0 % 256
    → ◌≡◌ {A = Ids} (record { outgoing_peer = a; incoming_peer = b; connect = get_or ws 2 0; outgoing_session = c; incoming_session = d }) (whole ws).ids
unfolding made parts numbers sizes
ids_made ws a b c d ea eb ec ed = rw (ea, eb, ec, ed)

pub peer_made : (p : Peer) (ids : Ids) (standing : Standing) (bandwidth : Bandwidth) (totals : Totals) (times : Times) (loss : Loss) (throttling : Throttling) (limits : Limits) (trips : Trips) (flow : Flow) (lists : Lists)
    (unsequenced : Unsequenced) (waiting : Waiting) (channels : List Channel) (outgoing : List Outgoing) (incoming : List Incoming) (marks : Marks)
    → ids ≡ p.ids → standing ≡ p.standing → bandwidth ≡ p.bandwidth → totals ≡ p.totals → times ≡ p.times → loss ≡ p.loss → throttling ≡ p.throttling → limits ≡ p.limits → trips ≡ p.trips
    → flow ≡ p.flow → lists ≡ p.lists → unsequenced ≡ p.unsequenced → waiting ≡ p.waiting → channels ≡ p.channels → outgoing ≡ p.outgoing → incoming ≡ p.incoming → marks ≡ p.marks
    → ◌≡◌ {A = Peer}
    (record {
      ids = ids;
      standing = standing;
      bandwidth = bandwidth;
      totals = totals;
      times = times;
      loss = loss;
      throttling = throttling;
      limits = limits;
      trips = trips;
      flow = flow;
      lists = lists;
      unsequenced = unsequenced;
      waiting = waiting;
      channels = channels;
      outgoing = outgoing;
      incoming = incoming;
      marks = marks;
    }) p
peer_made p ids standing bandwidth totals times loss throttling limits trips flow lists unsequenced waiting channels outgoing incoming marks e0 e1 e2 e3 e4 e5 e6 e7 e8 e9 e10 e11 e12 e13 e14 e15 e16 =
    rw (e0, e1, e2, e3, e4, e5, e6, e7, e8, e9, e10, e11, e12, e13, e14, e15, e16)

-- ---- written
low8 : (x y : ℕ) → x ≡ y → y < 256 → x % 256 ≡ y
low8 x y e h = omega arith

module _ (ws : List ℕ) (l : length ws ≡ 1236) where
  pub put_ids_lem : (x : Ids) (a b c d : ℕ) → a ≡ x.outgoing_peer → x.outgoing_peer < 65536 → b ≡ x.incoming_peer → x.incoming_peer < 65536
      → c ≡ x.outgoing_session → x.outgoing_session < 256 → d ≡ x.incoming_session → x.incoming_session < 256
      → whole (sets ws 0 (a ∷ b ∷ x.connect ∷ c ∷ d ∷ [])) ≡ with_fixed (whole ws) x (whole ws).bandwidth (whole ws).limits
  unfolding made parts numbers sizes place
  put_ids_lem x a b c d ea ha eb hb ec hc ed hd =
      numbers_put ws 0 43 0 0 (a ∷ b ∷ x.connect ∷ c ∷ d ∷ []) l (omega arith) refl refl (omega arith) (omega arith)
      ∙ rw (low a x.outgoing_peer ea ha, low b x.incoming_peer eb hb, low8 c x.outgoing_session ec hc, low8 d x.incoming_session ed hd)

  pub put_bandwidth_lem : (x : Bandwidth) → whole (sets ws 7 (x.incoming ∷ x.outgoing ∷ x.incoming_epoch ∷ x.outgoing_epoch ∷ [])) ≡ with_fixed (whole ws) (whole ws).ids x (whole ws).limits
  unfolding made parts numbers sizes place
  put_bandwidth_lem x = numbers_put ws 0 43 7 7 (x.incoming ∷ x.outgoing ∷ x.incoming_epoch ∷ x.outgoing_epoch ∷ []) l (omega arith) refl refl (omega arith) (omega arith)

  pub put_limits_lem : (x : Limits) → whole (sets ws 29 (x.ping ∷ x.timeout ∷ x.minimum ∷ x.maximum ∷ [])) ≡ with_fixed (whole ws) (whole ws).ids (whole ws).bandwidth x
  unfolding made parts numbers sizes place
  put_limits_lem x = numbers_put ws 0 43 29 29 (x.ping ∷ x.timeout ∷ x.minimum ∷ x.maximum ∷ []) l (omega arith) refl refl (omega arith) (omega arith)

pub fixed_put : (p₀ p₁ p₂ p₃ : Peer) (i : Ids) (b : Bandwidth) (l : Limits) → p₁ ≡ with_fixed p₀ i p₀.bandwidth p₀.limits → p₂ ≡ with_fixed p₁ p₁.ids b p₁.limits
    → p₃ ≡ with_fixed p₂ p₂.ids p₂.bandwidth l → p₃ ≡ with_fixed p₀ i b l
fixed_put p₀ p₁ p₂ p₃ i b l e₁ e₂ e₃ =
    e₃ ∙ ap (λ (p : Peer). with_fixed p p.ids p.bandwidth l) (e₂ ∙ ap (λ (p : Peer). with_fixed p p.ids b p.limits) e₁)

-- the seven groups of numbers beside them
abbrev pub numbered : Peer → Standing → Totals → Times → Loss → Throttling → Trips → Flow → Peer
numbered p standing totals times loss throttling trips flow =
    rebuilt p standing totals times loss throttling trips flow p.lists p.unsequenced p.waiting p.channels p.outgoing p.incoming p.marks

pub numbered_put : (p₀ p₁ p₂ p₃ p₄ p₅ p₆ p₇ : Peer) (standing : Standing) (totals : Totals) (times : Times) (loss : Loss) (throttling : Throttling) (trips : Trips) (flow : Flow)
    → p₁ ≡ with_standing p₀ standing → p₂ ≡ with_totals p₁ totals → p₃ ≡ with_times p₂ times → p₄ ≡ with_loss p₃ loss → p₅ ≡ with_throttling p₄ throttling → p₆ ≡ with_trips p₅ trips → p₇ ≡ with_flow p₆ flow
    → p₇ ≡ numbered p₀ standing totals times loss throttling trips flow
numbered_put p₀ p₁ p₂ p₃ p₄ p₅ p₆ p₇ standing totals times loss throttling trips flow e₁ e₂ e₃ e₄ e₅ e₆ e₇ =
    e₇
    ∙ ap (λ (p : Peer). with_flow p flow)
    (e₆
    ∙ ap (λ (p : Peer). with_trips p trips)
    (e₅
    ∙ ap (λ (p : Peer). with_throttling p throttling)
    (e₄
    ∙ ap (λ (p : Peer). with_loss p loss)
    (e₃ ∙ ap (λ (p : Peer). with_times p times) (e₂ ∙ ap (λ (p : Peer). with_totals p totals) e₁)))))

-- all of them
pub peer_put : (x p₀ p₁ p₂ p₃ p₄ p₅ p₆ p₇ p₈ p₉ : Peer) → p₁ ≡ with_fixed p₀ x.ids x.bandwidth x.limits
    → p₂ ≡ numbered p₁ x.standing x.totals x.times x.loss x.throttling x.trips x.flow → p₃ ≡ with_lists p₂ x.lists → p₄ ≡ with_unsequenced p₃ x.unsequenced
    → p₅ ≡ with_waiting p₄ x.waiting → p₆ ≡ with_channels p₅ x.channels → p₇ ≡ with_outgoing p₆ x.outgoing → p₈ ≡ with_incoming p₇ x.incoming
    → p₉ ≡ with_marks p₈ x.marks → p₉ ≡ x
peer_put x p₀ p₁ p₂ p₃ p₄ p₅ p₆ p₇ p₈ p₉ e₁ e₂ e₃ e₄ e₅ e₆ e₇ e₈ e₉ =
    e₉
    ∙ ap (λ (p : Peer). with_marks p x.marks)
    (e₈
    ∙ ap (λ (p : Peer). with_incoming p x.incoming)
    (e₇
    ∙ ap (λ (p : Peer). with_outgoing p x.outgoing)
    (e₆
    ∙ ap (λ (p : Peer). with_channels p x.channels)
    (e₅
    ∙ ap (λ (p : Peer). with_waiting p x.waiting)
    (e₄
    ∙ ap (λ (p : Peer). with_unsequenced p x.unsequenced)
    (e₃
    ∙ ap (λ (p : Peer). with_lists p x.lists)
    (e₂ ∙ ap (λ (p : Peer). numbered p x.standing x.totals x.times x.loss x.throttling x.trips x.flow) e₁)))))))
