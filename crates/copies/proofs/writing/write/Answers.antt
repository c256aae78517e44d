-- The groups one after the other: every write replaces its groups alone, and all are replaced.
use mathlib.Core.Path.{◌∙◌}
use Rattle.places.specs.Whole.{whole}
use Rattle.copies.proofs.RecordLaws.{peer_put}
use Rattle.copies.proofs.writing.write.Goals as goal

pub returns : goal.returns
returns c =
    let a = c.args in
    peer_put
    a.peer
    (whole a.words.now)
    (whole c.put_fixed.new.words)
    (whole c.put_numbers.new.words)
    (whole c.put_lists.new.words)
    (whole c.put_unsequenced.new.words)
    (whole c.put_waiting.new.words)
    (whole c.put_channels.new.words)
    (whole c.put_outgoing.new.words)
    (whole c.put_incoming.new.words)
    (whole c.put_marks.new.words)
    c.put_fixed.ensures
    c.put_numbers.ensures
    c.put_lists.ensures
    c.put_unsequenced.ensures
    c.put_waiting.ensures
    c.put_channels.ensures
    c.put_outgoing.ensures
    c.put_incoming.ensures
    c.put_marks.ensures
