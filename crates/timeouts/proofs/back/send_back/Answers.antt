-- `send_back` meets its contract: each run is the rule's, gathered before the sent list changes, and each list is what its run makes of it.
use lib.ListN.{take}
use mathlib.Core.List.{map}
use Rattle.lists.specs.Rows.{low}
use Rattle.places.specs.Whole.{whole}
use Rattle.timeouts.proofs.BackLaws.{sent_back}
use Rattle.timeouts.proofs.back.send_back.Goals as goal

pub returns : goal.returns
returns c =
    let a = c.args in
    sent_back (whole a.words.now) (whole c.prepend.new.words) (whole c.prepend-2.new.words) (whole c.replace.new.words) a.marks.now
    (map low (take c.gather-packets.result c.gather-packets.new.cells)) (map low (take c.gather-others.result c.gather-others.new.cells))
    (map low (take c.gather-kept.result c.gather-kept.new.cells))
    c.gather-packets.ensures.slots c.prepend.ensures c.gather-others.ensures.slots c.prepend-2.ensures c.gather-kept.ensures.slots
    c.replace.ensures
