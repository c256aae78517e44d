-- The numbers of the group, to their places: `numbers_put`.
use Rattle.places.proofs.GroupLaws.{put_throttling_lem}
use borrow.Author.Rules.{rules}
use Rattle.places.proofs.groups.put_throttling.Goals as goal

pub bounds-words-26 : goal.bounds-words-26
bounds-words-26 c = search rules depth 12

pub bounds-words-27 : goal.bounds-words-27
bounds-words-27 c = search rules depth 12

pub bounds-words-28 : goal.bounds-words-28
bounds-words-28 c = search rules depth 12

pub returns : goal.returns
returns c = put_throttling_lem c.args.words.now c.told-words c.args.x
