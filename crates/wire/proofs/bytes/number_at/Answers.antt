-- The loop adds a byte a turn: n is the number of the bytes passed, and below 256 to their count.
use mathlib.Core.Path.{◌≡◌, ◌∙◌}
use Prim.Native.Nat.{◌+◌, ◌-◌, ◌^◌, ◌≤◌}
use lib.ListN.{get_or, drop}
use lib.Seq.{get_or-take, get_or-drop}
use native.Mathlib.Nat.{pow-suc}
use native.Mathlib.Numerals.{add-one}
use native.Mathlib.Omega.{arith}
use borrow.Author.Rules.{rules}
use Rattle.command.specs.Bytes.{number_at}
use Rattle.command.proofs.ByteLaws.{pow_3}
use Rattle.wire.proofs.bytes.number_at.Goals as goal

pub loop-b-init : goal.loop-b-init
unfolding number_at
loop-b-init c = search rules

pub overflow_mul-n : goal.overflow_mul-n
overflow_mul-n c = let h : 256 ^ c.loop-b.b-index ≤ 16777216 = pow_3 c.loop-b.b-index (omega arith) in omega arith

pub overflow_add-n : goal.overflow_add-n
overflow_add-n c = let h : 256 ^ c.loop-b.b-index ≤ 16777216 = pow_3 c.loop-b.b-index (omega arith) in omega arith

pub loop-b-preserved : goal.loop-b-preserved
unfolding number_at
loop-b-preserved c =
    let s = c.args.s.now in
    let at = c.args.at in
    let i = c.loop-b.b-index in
    let g : c.from.result ≡ get_or s (at + i) 0 =
    c.from.ensures ∙ get_or-take (at + c.args.width - at) (drop at s) i 0 (omega arith) ∙ get_or-drop at s i 0 in
    (rw add-one (omega (arith, g)), rw (add-one, pow-suc 256 i) (omega (arith, g, c.type_inv.s (at + i))))

pub returns : goal.returns
returns c =
    let e : c.loop-b.b-index ≡ c.args.width = omega arith in
    (rw e at c.loop-b.invariant.0, rw e at c.loop-b.invariant.1)
