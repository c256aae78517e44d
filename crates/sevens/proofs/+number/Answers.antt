-- `number` meets its contract: each return is a case of the definition at the place; the groups that are left fall.
use Rattle.std.proofs.Common.{ℕ, ◌+◌, ◌-◌, ◌≤◌, ◌<◌, ap, ◌∙◌, arith, drop}
use lib.ListN.{get_or}
use Rattle.sevens.specs.Groups.{below, number_in, value_of, groups_of}
use Rattle.sevens.proofs.Reading.{no_group, no_byte, last_byte, more_bytes, number_fits, number_few}
use Rattle.sevens.proofs.+number.Goals as goal

pub returns-then-left-eq0 : goal.returns-then-left-eq0
returns-then-left-eq0 t c = no_group (drop c.args.at c.args.bytes.now) c.args.left c.if-left-eq0.true

pub returns-then-bytes-at : goal.returns-then-bytes-at
returns-then-bytes-at t c = no_byte c.args.bytes.now c.args.at c.args.left c.if-bytes-at.true

pub returns-then-b-lt128 : goal.returns-then-b-lt128
returns-then-b-lt128 t c =
    let a = c.args in
    let l : get_or a.bytes.now a.at 0 < 128 = omega arith in
    rw c.wide-b.ensures.0 (last_byte a.bytes.now a.at a.left c.if-left-eq0.false c.if-bytes-at.false l)

pub returns-in_err-rest : goal.returns-in_err-rest
returns-in_err-rest t c =
    let a = c.args in
    let l : 128 ≤ get_or a.bytes.now a.at 0 = omega arith in
    c.from_residual.ensures
    ∙ ap (below (get_or a.bytes.now a.at 0)) c.in_err-rest.ensures
    ∙ more_bytes a.bytes.now a.at a.left c.if-left-eq0.false c.if-bytes-at.false l

pub joined-requires : goal.joined-requires
joined-requires t c =
    let a = c.args in
    let e = c.in_ok-rest.ensures in (
      omega arith,
      omega arith,
      omega (arith, ap value_of e, number_fits a.bytes.now (a.at + 1) (a.left - 1) (λ k. omega (arith, c.type_inv.bytes k)) (omega arith)),
      omega (arith, ap groups_of e, number_few (a.left - 1) (drop (a.at + 1) a.bytes.now)),
    )

pub returns : goal.returns
returns t c =
    let a = c.args in
    let l : 128 ≤ get_or a.bytes.now a.at 0 = omega arith in
    c.joined.ensures
    ∙ ap (below c.wide-b.result) c.in_ok-rest.ensures
    ∙ ap (λ (x : ℕ). below x (number_in (a.left - 1) (drop (a.at + 1) a.bytes.now))) c.wide-b.ensures.0
    ∙ more_bytes a.bytes.now a.at a.left c.if-left-eq0.false c.if-bytes-at.false l
