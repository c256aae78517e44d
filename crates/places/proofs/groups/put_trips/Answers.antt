-- The numbers of the group, to their places: `numbers_put`.
use Rattle.places.proofs.GroupLaws.{put_trips_lem}
use borrow.Author.Rules.{rules}
use Rattle.places.proofs.groups.put_trips.Goals as goal

pub bounds-words-37 : goal.bounds-words-37
bounds-words-37 c = search rules depth 12

pub bounds-words-38 : goal.bounds-words-38
bounds-words-38 c = search rules depth 12

pub returns : goal.returns
returns c = put_trips_lem c.args.words.now c.told-words c.args.x
