-- `flag` meets its contract: the flags with the bit set are written back.
use Rattle.places.specs.Whole.{whole}
use Rattle.dispatch.proofs.DispatchingPlaces.{flag_put}
use Rattle.dispatch.proofs.dispatching.flag.Goals as goal

pub returns : goal.returns
returns c =
    let a = c.args in
    flag_put (whole a.words.now) (whole c.put_flags.new.words) c.flags-flags.result c.flag_set.result c.flags-flags.ensures c.flag_set.ensures c.put_flags.ensures
