-- `in_queue` asks for flag 128, then for an attempt: the answer of each picks the case.
use Rattle.std.proofs.Common.{sym, ◌∙◌, le-ltb, lt-ltb}
use borrow.Author.Tests.{not-true, not-false}
use Rattle.acknowledge.proofs.removal.in_queue.Goals as goal

pub returns-then-not-is_acknowledged : goal.returns-then-not-is_acknowledged
returns-then-not-is_acknowledged c = rw (sym c.is_acknowledged.ensures ∙ not-true _ c.if-not-is_acknowledged.true-raw)

pub returns-then-slot-lt1 : goal.returns-then-slot-lt1
returns-then-slot-lt1 c =
    rw (sym c.is_acknowledged.ensures ∙ not-false _ c.if-not-is_acknowledged.false-raw, lt-ltb _ _ c.if-slot-lt1.true)

pub returns : goal.returns
returns c =
    rw (sym c.is_acknowledged.ensures ∙ not-false _ c.if-not-is_acknowledged.false-raw, le-ltb _ _ c.if-slot-lt1.false) c.in_sent.ensures
