-- `retime` meets its contract: a slot that has the timeout is what it would be with it, and else its timeout alone is another.
use Rattle.places.specs.Whole.{whole}
use Rattle.timeouts.proofs.BackLaws.{retime_same, retime_put}
use Rattle.timeouts.proofs.back.retime.Goals as goal

pub returns-then-timeout-o : goal.returns-then-timeout-o
returns-then-timeout-o c =
    let a = c.args in
    retime_same (whole a.words.now) a.s a.o c.requires a.timeout c.if-timeout-o.true

pub returns : goal.returns
returns c =
    let a = c.args in
    retime_put (whole a.words.now) a.s a.o c.requires a.timeout (whole c.put_attempt.new.words) c.put_attempt.ensures
