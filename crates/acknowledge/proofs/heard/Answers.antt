-- `heard` does the parts one after the other: they are the rule's record and answer.
use Rattle.places.specs.Whole.{whole}
use Rattle.acknowledge.proofs.Changes.{heard_is}
use Rattle.acknowledge.proofs.heard.Goals as goal

pub returns : goal.returns
returns c =
    let a = c.args in
    let m = c.measure in
    let w = c.spot_in-spot in
    let s = c.slot_at-slot in
    let f = c.free-command in
    let r = c.is_some in
    let t = c.time in
    heard_is a.sample a.channel a.number.0 a.clock (whole a.words.now) (whole m.new.words) (whole f.new.words) (whole t.new.words) w.result
    s.result f.result r.result c.event_in.result m.ensures w.ensures s.ensures f.ensures.number f.ensures.kept r.ensures t.ensures
    c.event_in.ensures
