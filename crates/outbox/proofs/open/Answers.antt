-- `open` reads each number off its group; the marks are those of the lists, over none.
use Rattle.outbox.proofs.open.Goals as goal

pub returns : goal.returns
returns c =
    rw (c.totals-totals.ensures, c.waiting-waiting.ensures, c.counters_at-counters.ensures, c.mark.ensures, c.requires)
