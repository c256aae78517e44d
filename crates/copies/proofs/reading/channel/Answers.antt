-- The channel's four numbers, then its list.
use Rattle.copies.proofs.ListLaws.{channel_made}
use Rattle.copies.proofs.reading.channel.Goals as goal

pub returns : goal.returns
returns c =
    channel_made c.args.words.now c.args.i c.numbers_of-n.result c.in_list.result c.requires c.told-words c.numbers_of-n.ensures c.in_list.ensures
