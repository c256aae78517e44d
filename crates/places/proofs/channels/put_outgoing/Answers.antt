-- The channel's two outgoing numbers, to their places.
use mathlib.Core.Path.{ap, ◌∙◌}
use Rattle.places.specs.Whole.{whole}
use Rattle.places.proofs.ChannelLaws.{put_outgoing_numbers}
use Rattle.places.proofs.channels.put_outgoing.Goals as goal

pub returns : goal.returns
returns c =
    let p = c.put_pair in
    let a = c.args in
    ap whole p.ensures.is ∙ put_outgoing_numbers a.words.now a.i a.r a.u c.requires c.told-words p.ensures.low.0 p.ensures.low.1
