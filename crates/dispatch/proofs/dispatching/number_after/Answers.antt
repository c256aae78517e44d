-- `number_after` meets its contract: what the fragments add is taken modulo 65,536 before the sum or after it.
use Rattle.std.proofs.Common.{◌-◌, ◌∙◌, eq-eqb, ne_eqb}
use Rattle.dispatch.proofs.DispatchingLaws.{sum_reduced}
use Rattle.dispatch.proofs.dispatching.number_after.Goals as goal

pub returns-then-slot-eq0 : goal.returns-then-slot-eq0
returns-then-slot-eq0 c = rw (eq-eqb _ _ c.if-slot-eq0.true)

pub returns : goal.returns
returns c =
    let i = c.args.slot in
    rw (ne_eqb i.fragments 0 c.if-slot-eq0.false) (c.wrapping_add_u16.ensures.value ∙ sum_reduced i.number.0 (i.fragments - 1))
