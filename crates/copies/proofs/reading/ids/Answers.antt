-- The numbers of the group, from their places, the narrow ones cut.
use Rattle.copies.proofs.RecordLaws.{ids_made}
use Rattle.copies.proofs.reading.ids.Goals as goal

pub returns : goal.returns
returns c =
    ids_made
    c.args.words.now
    c.low16.result
    c.low16-2.result
    c.low8.result
    c.low8-2.result
    c.low16.ensures
    c.low16-2.ensures
    c.low8.ensures
    c.low8-2.ensures
