-- Soundness where only the outgoing side changes: no slot is named more often than before, each that is named keeps its command, and each that is
-- then in sent was tried. The argument: the other clauses speak of parts that are as they were.
use Prim.Native.Nat.{ℕ, ◌≤◌, ◌<◌}
use mathlib.Core.Path.{◌≡◌, ap, ◌∙◌}
use mathlib.Core.Bool.{Bool, true}
use native.Mathlib.Omega.{arith}
use lib.Dec.{leb}
use lib.ListN.{get_or}
use Rattle.numbers.specs.Pick.{both}
use Rattle.numbers.proofs.BoolLaws.{both_left, both_right, both_true}
use Rattle.command.specs.Rows.{names_fields}
use Rattle.command.specs.declared.fields.Command.{Command}
use Rattle.record.specs.Lists.{outgoing, incoming, out_items}
use Rattle.record.specs.declared.outgoing.OutList.{OutList}
use Rattle.record.proofs.Keeps.{times, once_less, exist_less}
use Rattle.record.specs.Channels.{on_channel}
use Rattle.record.specs.Fresh.{no_outgoing}
use Rattle.record.specs.Damage.{lists_fit, out_fit, tried, used_out}
use Rattle.record.specs.declared.groups.Lists.{Lists}
use Rattle.peer.specs.Damage.{sound}
use Rattle.peer.specs.declared.Peer.{Peer}
use Rattle.peer.proofs.Clauses.{Clauses, clauses_sound, all_at, at_all}

-- other lists of the outgoing pool, that fit it where those did
module _ (l : Lists) (x y z : OutList) where
  abbrev fit : OutList → Bool
  fit a = leb a.len outgoing

  pub others_fit : (fit l.sent ≡ true → fit x ≡ true) → (fit l.send_reliable ≡ true → fit y ≡ true) → (fit l.outgoing ≡ true → fit z ≡ true)
      → lists_fit l ≡ true → lists_fit (record { sent = x; send_reliable = y; outgoing = z; dispatched = l.dispatched }) ≡ true
  others_fit f g h e =
      let a = fit l.sent in
      let b = fit l.send_reliable in
      let c = fit l.outgoing in
      let d = leb l.dispatched.len incoming in
      let u = both_right a (both b (both c d)) e in
      let v = both_right b (both c d) u in
      both_true (fit x) (both (fit y) (both (fit z) d)) (f (both_left a (both b (both c d)) e))
      (both_true (fit y) (both (fit z) d) (g (both_left b (both c d) u)) (both_true (fit z) d (h (both_left c d v)) (both_right c d v)))

module _ (p q : Peer) where
  -- what soundness asks of the rest
  pub record Aside : Type 0 where
    pub mtu : q.flow.mtu ≡ p.flow.mtu
    pub standing : q.standing ≡ p.standing
    pub dispatched : q.lists.dispatched ≡ p.lists.dispatched
    pub total : q.waiting.total ≡ p.waiting.total
    pub channels : q.channels ≡ p.channels
    pub incoming : q.incoming ≡ p.incoming
    pub marks : q.marks ≡ p.marks

  module _ (w : Clauses p) (a : Aside) (fits : lists_fit q.lists ≡ true)
      (named : (k : ℕ) → times (used_out q.lists) k ≤ times (used_out p.lists) k)
      (same : (k : ℕ) → (get_or q.outgoing k no_outgoing).command ≡ (get_or p.outgoing k no_outgoing).command)
      (tries : (k : ℕ) → 0 < times (out_items q.lists.sent) k → tried q.outgoing k ≡ true) where
    same_fit : (count k : ℕ) → out_fit q.outgoing count k ≡ out_fit p.outgoing count k
    same_fit count k = ap (λ (c : Command). both (names_fields c) (on_channel c.channel count)) (same k)

    pub out_sound : sound q ≡ true
    out_sound =
        clauses_sound q
        (record {
          range = rw (a.mtu, a.standing) w.range;
          lists = fits;
          held = rw (a.channels, a.standing) w.held;
          exists = exist_less (used_out p.lists) (used_out q.lists) named outgoing w.exists;
          single = once_less (used_out p.lists) (used_out q.lists) named w.single;
          fit =
              at_all (out_fit q.outgoing q.standing.channels) (used_out q.lists)
              (λ k h.
              rw a.standing
              (same_fit p.standing.channels k
              ∙ all_at (out_fit p.outgoing p.standing.channels) (used_out p.lists) w.fit k (omega (arith, named k, h))));
          sent = at_all (tried q.outgoing) (out_items q.lists.sent) tries;
          arrived = rw (a.marks, a.incoming, a.dispatched, a.channels, a.standing, a.total) w.arrived;
        })
