-- Each one is read from its place, and there are as many.
use borrow.Author.Rules.{rules}
use Rattle.record.specs.Fresh.{no_channel}
use Rattle.places.specs.Whole.{whole}
use Rattle.copies.proofs.Filling.{from_fn_is}
use Rattle.places.proofs.Sized.{sized}
use Rattle.copies.proofs.reading.all_channels.Goals as goal

pub returns : goal.returns
returns c =
    let ws = c.args.words.now in
    from_fn_is _ _ _ (whole ws).channels no_channel (λ k y q h. search rules) 8 c.from_fn.ensures.items (sized ws).channels
