-- The numbers of a cut packet's pieces as they are set up in turn: reliable ones count on from the packet's first number, unreliable ones
-- all bear it. The argument: a setup steps the two counters of its channel as the piece's byte and offset say, so induction along the pieces
-- follows them.
use Rattle.std.specs.Prelude.{Some}
use Prim.Native.Nat.{ℕ, zero, suc, ◌+◌, ◌≤◌, ◌<◌}
use mathlib.Core.Path.{◌≡◌, refl, ap, ◌∙◌}
use mathlib.Core.Bool.{false}
use native.Mathlib.Omega.{arith}
use lib.Dec.{eqb}
use lib.ListN.{length, get_or, length-set}
use lib.Seq.{get_or-set_same}
use borrow.Author.Tests.{ne_eqb, eqb-false}
use Rattle.numbers.specs.Modulo.{sum}
use Rattle.numbers.specs.Counters.{step}
use Rattle.numbers.specs.declared.counters.Reliable.{Reliable}
use Rattle.numbers.specs.declared.counters.Unreliable.{Unreliable}
use Rattle.record.specs.Channels.{is_itself}
use Rattle.record.specs.Lists.{outgoing}
use Rattle.cells.specs.Free.{lowest}
use Rattle.record.specs.Fresh.{no_channel, no_outgoing}
use Rattle.record.specs.Sizes.{channels, itself}
use Rattle.record.specs.Damage.{used_out}
use Rattle.peer.specs.declared.Peer.{Peer}
use Rattle.record.specs.declared.groups.Channel.{Channel}
use Rattle.outbox.specs.Counting.{channel_at}
use Rattle.setup.specs.Queueing.{stamp_of, queued_at, queued}
use Rattle.setup.specs.Taking.{filled, Ready}
use Rattle.outbox.specs.declared.pieces.Piece.{Piece}
use Rattle.setup.proofs.Taking.{queued_at_lem}
use Rattle.setup.proofs.Taking.{step as setup}
use Rattle.packets.specs.Packets.{length_at, cut_piece, cut_from, pieces}
use Rattle.laws.specs.Done.{Bears}
use Rattle.packets.specs.declared.Start.TheVariants as start
use Rattle.packets.specs.declared.Cut.{Cut}

-- a channel after a setup on it: its two outgoing numbers, and that it is still there
record Next (y : Piece) (p : Peer) (channel r u : ℕ) : Type 0 where
  reliable : (channel_at (queued y p).channels channel).outgoing_reliable.0 ≡ r
  unreliable : (channel_at (queued y p).channels channel).outgoing_unreliable.0 ≡ u
  there : channel < length (queued y p).channels

next : (y : Piece) (p : Peer) (channel s r u : ℕ) → y.command.channel ≡ channel → channel < length p.channels
    → lowest outgoing (used_out p.lists) ≡ Some s → (stamp_of y p).counters.reliable.0 ≡ r → (stamp_of y p).counters.unreliable.0 ≡ u
    → Next y p channel r u
unfolding queued_at
next y p channel s r u e h low er eu =
    let is = queued_at_lem y p s low in
    let inside : y.command.channel < length p.channels = rw e h in
    rw (← e)
    (record {
      reliable = rw is (ap (λ (c : Channel). c.outgoing_reliable.0) (get_or-set_same p.channels y.command.channel _ no_channel inside) ∙ er);
      unreliable = rw is (ap (λ (c : Channel). c.outgoing_unreliable.0) (get_or-set_same p.channels y.command.channel _ no_channel inside) ∙ eu);
      there = rw (is, length-set) inside;
    })

module _ (x : Cut) (far : is_itself x.channel ≡ false) where
  abbrev now : Peer → ℕ
  now p = (channel_at p.channels x.channel).outgoing_reliable.0

  abbrev unreliable : Peer → ℕ
  unreliable p = (channel_at p.channels x.channel).outgoing_unreliable.0

  module _ (n : Reliable) (e : x.start ≡ start.Reliable n) where
    -- each piece steps the reliable number
    run_reliable : (left j offset i : ℕ) (p : Peer) → x.channel < length p.channels → Ready (cut_from x left j offset) p → i < left
        → Bears (get_or (filled (cut_from x left j offset) p) i no_outgoing) (sum 16 (step (now p)) i) 0
    unfolding cut_from filled
    run_reliable zero j offset i p h ready l = absurd (omega arith)
    run_reliable (suc left) j offset zero p h ready l =
        let t : step (now p) ≡ sum 16 (step (now p)) 0 = omega arith in
        rw (← t, e, far) (record { reliable = refl; unreliable = refl; header = refl })
    run_reliable (suc left) j offset (suc i) p h ready l =
        let y = cut_piece x j offset in
        let t = setup y (cut_from x left (j + 1) (offset + length_at x offset)) p ready in
        let q = next y p x.channel t.slot (step (now p)) 0 (rw e) h t.low (rw (e, far)) (rw (e, far)) in
        let v : sum 16 (step (now (queued y p))) i ≡ sum 16 (step (now p)) (suc i) = rw q.reliable (omega arith) in
        rw (← v) (run_reliable left (j + 1) (offset + length_at x offset) i (queued y p) q.there t.next (omega arith))

  module _ (n : Unreliable) (e : x.start ≡ start.Unreliable n) where
    -- past offset 0 no piece steps a number
    run_later : (left j offset i : ℕ) (p : Peer) → eqb offset 0 ≡ false → x.channel < length p.channels → Ready (cut_from x left j offset) p → i < left
        → Bears (get_or (filled (cut_from x left j offset) p) i no_outgoing) (now p) (unreliable p)
    unfolding cut_from filled
    run_later zero j offset i p z h ready l = absurd (omega arith)
    run_later (suc left) j offset zero p z h ready l = rw (e, far, z) (record { reliable = refl; unreliable = refl; header = refl })
    run_later (suc left) j offset (suc i) p z h ready l =
        let y = cut_piece x j offset in
        let t = setup y (cut_from x left (j + 1) (offset + length_at x offset)) p ready in
        let q = next y p x.channel t.slot (now p) (unreliable p) (rw e) h t.low (rw (e, far, z)) (rw (e, far, z)) in
        let later = ne_eqb (offset + length_at x offset) 0 (λ w. eqb-false offset 0 z (omega arith)) in
        rw (← q.reliable, ← q.unreliable)
        (run_later left (j + 1) (offset + length_at x offset) i (queued y p) later q.there t.next (omega arith))

    -- the first piece, at offset 0, steps the unreliable number
    run_unreliable : (left i : ℕ) (p : Peer) → 1 ≤ x.length → 1 ≤ x.fragment → x.channel < length p.channels → Ready (cut_from x left 0 0) p
        → i < left → Bears (get_or (filled (cut_from x left 0 0) p) i no_outgoing) (now p) (step (unreliable p))
    unfolding cut_from filled
    run_unreliable zero i p some wide h ready l = absurd (omega arith)
    run_unreliable (suc left) zero p some wide h ready l = rw (e, far) (record { reliable = refl; unreliable = refl; header = refl })
    run_unreliable (suc left) (suc i) p some wide h ready l =
        let y = cut_piece x 0 0 in
        let t = setup y (cut_from x left (0 + 1) (0 + length_at x 0)) p ready in
        let q = next y p x.channel t.slot (now p) (step (unreliable p)) (rw e) h t.low (rw (e, far)) (rw (e, far)) in
        let later = ne_eqb (0 + length_at x 0) 0 (λ w. omega arith) in
        rw (← q.reliable, ← q.unreliable)
        (run_later left (0 + 1) (0 + length_at x 0) i (queued y p) later q.there t.next (omega arith))

-- a packet on one of the record's channels: what the setup of piece i makes
module _ (x : Cut) (p : Peer) (eight : length p.channels ≡ channels) (within : x.channel < channels) (ready : Ready (pieces x) p)
    (i : ℕ) (h : i < x.count) where
  far : is_itself x.channel ≡ false
  far = ne_eqb x.channel itself (λ z. omega arith)

  -- consecutive reliable numbers, on past 65,535
  pub reliable_numbers : (n : Reliable) → x.start ≡ start.Reliable n → n.0 ≡ step (channel_at p.channels x.channel).outgoing_reliable.0
      → Bears (get_or (filled (pieces x) p) i no_outgoing) (sum 16 n.0 i) 0
  reliable_numbers n e is = rw is (run_reliable x far n e x.count 0 0 i p (omega arith) ready h)

  -- one unreliable number, beside the channel's reliable one
  pub unreliable_numbers : (n : Unreliable) → x.start ≡ start.Unreliable n → n.0 ≡ step (channel_at p.channels x.channel).outgoing_unreliable.0
      → 1 ≤ x.length → 1 ≤ x.fragment
      → Bears (get_or (filled (pieces x) p) i no_outgoing) (channel_at p.channels x.channel).outgoing_reliable.0 n.0
  unreliable_numbers n e is some wide = rw is (run_unreliable x far n e x.count i p some wide (omega arith) ready h)
