-- `walk` meets its contract. What its loop keeps is `Going`: what the walk makes of all slots of the sent list is what it makes of those left, on the record
-- as stored so far; it begins behind those that are not due.
use Prim.Native.Nat.{ℕ}
use mathlib.Core.Path.{◌≡◌, ap, sym, ◌∙◌}
use native.Mathlib.Omega.{arith}
use lib.ListN.{length, length-replicate}
use borrow.Author.Rules.{rules}
use Rattle.record.specs.Lists.{out_items}
use Rattle.places.specs.Whole.{whole}
use Rattle.overdue.specs.Walking.{Walked}
use Rattle.timeouts.proofs.BackLaws.{sent_fits}
use Rattle.timeouts.proofs.Early.{early_fits, going_begun}
use Rattle.timeouts.proofs.PlaceLaws.{lent_turn, walk_end, slots_end}
use Rattle.timeouts.proofs.walk.Goals as goal

pub loop-j-init : goal.loop-j-init
loop-j-init c =
    let p = whole c.args.words.now in
    let fits = sent_fits c.args.words.now in (
      omega (arith, c.count-n.ensures, fits),
      c.told-words,
      ap length c.requires ∙ length-replicate {A = ℕ} 32 0,
      going_begun c.limits-limits.result c.args.clock p c.args.marks.now c.early-from.result c.begin-w.result fits c.requires c.early-from.ensures c.begin-w.ensures,
    )

pub loop-j-preserved : goal.loop-j-preserved
loop-j-preserved c =
    let i = c.loop-j.invariant in (
      i.0,
      search rules,
      search rules,
      lent_turn i.3 c.slot_at-s.result c.turn-t.result.mark c.turn-t.result.walk (whole c.turn-t.new.words) (omega (arith, c.count-n.ensures, c.loop-j-test.true))
          (omega (arith, c.count-n.ensures)) c.slot_at-s.ensures c.turn-t.ensures.walk c.turn-t.ensures.mark c.turn-t.ensures.slot,
    )

pub returns : goal.returns
returns c =
    let p = whole c.args.words.now in
    let i = c.loop-j.invariant in
    let low = early_fits c.args.clock p.outgoing (out_items p.lists.sent) in
    let e : c.loop-j.j ≡ length (out_items p.lists.sent) = omega (arith, c.count-n.ensures, c.early-from.ensures, low) in
    let is = walk_end i.3 c.limits-limits.ensures e in record { walk = ap (λ (x : Walked). x.walk) (sym is); marks = ap (λ (x : Walked). x.marks) (sym is); slots = slots_end i.3 c.limits-limits.ensures e }
