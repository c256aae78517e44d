-- Every group is the record's own.
use Rattle.places.specs.Whole.{whole}
use Rattle.copies.proofs.RecordLaws.{peer_made}
use Rattle.copies.proofs.meant.Goals as goal

pub returns : goal.returns
returns c =
    peer_made
    (whole c.args.words.now)
    c.ids-ids.result
    c.standing-standing.result
    c.bandwidth-bandwidth.result
    c.totals-totals.result
    c.times-times.result
    c.loss-loss.result
    c.throttling-throttling.result
    c.limits-limits.result
    c.trips-trips.result
    c.flow-flow.result
    c.lists-lists.result
    c.unsequenced-unsequenced.result
    c.waiting-waiting.result
    c.all_channels-channels.result
    c.outgoing-outgoing.result
    c.incoming-incoming.result
    c.marks-marks.result
    c.ids-ids.ensures
    c.standing-standing.ensures
    c.bandwidth-bandwidth.ensures
    c.totals-totals.ensures
    c.times-times.ensures
    c.loss-loss.ensures
    c.throttling-throttling.ensures
    c.limits-limits.ensures
    c.trips-trips.ensures
    c.flow-flow.ensures
    c.lists-lists.ensures
    c.unsequenced-unsequenced.ensures
    c.waiting-waiting.ensures
    c.all_channels-channels.ensures
    c.outgoing-outgoing.ensures
    c.incoming-incoming.ensures
    c.marks-marks.ensures
