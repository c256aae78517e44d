-- The three groups one after the other: every write replaces its group alone.
use Rattle.places.specs.Whole.{whole}
use Rattle.copies.proofs.RecordLaws.{fixed_put}
use Rattle.copies.proofs.writing.put_fixed.Goals as goal

pub returns : goal.returns
returns c =
    let a = c.args in
    fixed_put
    (whole a.words.now)
    (whole c.put_ids.new.words)
    (whole c.put_bandwidth.new.words)
    (whole c.put_limits.new.words)
    a.ids
    a.bandwidth
    a.limits
    c.put_ids.ensures
    c.put_bandwidth.ensures
    c.put_limits.ensures
