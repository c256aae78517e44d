-- The numbers of the group, to their places: `numbers_put`.
use Rattle.places.proofs.GroupLaws.{put_loss_lem}
use borrow.Author.Rules.{rules}
use Rattle.places.proofs.groups.put_loss.Goals as goal

pub bounds-words-21 : goal.bounds-words-21
bounds-words-21 c = search rules depth 12

pub returns : goal.returns
returns c = put_loss_lem c.args.words.now c.told-words c.args.x
