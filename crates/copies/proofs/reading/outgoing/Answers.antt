-- Each one is read from its place, and there are as many.
use borrow.Author.Rules.{rules}
use Rattle.record.specs.Fresh.{no_outgoing}
use Rattle.places.specs.Whole.{whole}
use Rattle.copies.proofs.Filling.{from_fn_is}
use Rattle.copies.proofs.RecordLaws.{outgoing-length}
use Rattle.copies.proofs.reading.outgoing.Goals as goal

pub returns : goal.returns
returns c =
    let ws = c.args.words.now in
    from_fn_is _ _ _ (whole ws).outgoing no_outgoing (λ k y q h. search rules) 32 c.from_fn.ensures.items (outgoing-length ws)
