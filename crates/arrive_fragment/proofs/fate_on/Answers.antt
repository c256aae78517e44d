-- `fate_on` asks for the state, then whose piece it is: each answer is the rule's case.
use Rattle.std.specs.Prelude.{None, Some}
use Rattle.places.specs.Whole.{whole}
use Rattle.arrive_fragment.proofs.Calling.{fate_passed, fate_by_lem}
use Rattle.arrive_fragment.proofs.fate_on.Goals as goal

pub returns-then-standing-eq-DISCONNECT_LATER : goal.returns-then-standing-eq-DISCONNECT_LATER
returns-then-standing-eq-DISCONNECT_LATER c =
    let standing = c.standing-standing in
    let a = c.args in
    fate_passed a.settings a.a (whole a.words.now) standing.result standing.ensures c.if-standing-eq-DISCONNECT_LATER.true

pub returns-in-None : goal.returns-in-None
returns-in-None c =
    let standing = c.standing-standing in
    let a = c.args in
    fate_by_lem a.settings a.a (whole a.words.now) standing.result standing.ensures c.if-standing-eq-DISCONNECT_LATER.false
    c.unfinished-block.result None c.unfinished-block.ensures c.in-None.is c.first_fate.result c.first_fate.ensures

pub returns-in-Some : goal.returns-in-Some
returns-in-Some c =
    let standing = c.standing-standing in
    let a = c.args in
    fate_by_lem a.settings a.a (whole a.words.now) standing.result standing.ensures c.if-standing-eq-DISCONNECT_LATER.false
    c.unfinished-block.result (Some c.in-Some.s) c.unfinished-block.ensures c.in-Some.is c.later_fate.result c.later_fate.ensures
