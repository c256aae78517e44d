-- The seven groups one after the other: every write replaces its group alone.
use Rattle.places.specs.Whole.{whole}
use Rattle.copies.proofs.RecordLaws.{numbered_put}
use Rattle.copies.proofs.writing.put_numbers.Goals as goal

pub returns : goal.returns
returns c =
    let a = c.args in
    numbered_put
    (whole a.words.now)
    (whole c.put_standing.new.words)
    (whole c.put_totals.new.words)
    (whole c.put_times.new.words)
    (whole c.put_loss.new.words)
    (whole c.put_throttling.new.words)
    (whole c.put_trips.new.words)
    (whole c.put_flow.new.words)
    a.standing
    a.totals
    a.times
    a.loss
    a.throttling
    a.trips
    a.flow
    c.put_standing.ensures
    c.put_totals.ensures
    c.put_times.ensures
    c.put_loss.ensures
    c.put_throttling.ensures
    c.put_trips.ensures
    c.put_flow.ensures
