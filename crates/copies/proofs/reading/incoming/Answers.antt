-- Each one is read from its place, and there are as many.
use borrow.Author.Rules.{rules}
use Rattle.record.specs.Fresh.{no_incoming}
use Rattle.places.specs.Whole.{whole}
use Rattle.copies.proofs.Filling.{from_fn_is}
use Rattle.copies.proofs.RecordLaws.{incoming-length}
use Rattle.copies.proofs.reading.incoming.Goals as goal

pub returns : goal.returns
returns c =
    let ws = c.args.words.now in
    from_fn_is _ _ _ (whole ws).incoming no_incoming (λ k y q h. search rules) 12 c.from_fn.ensures.items (incoming-length ws)
