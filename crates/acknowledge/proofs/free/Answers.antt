-- `free` reads the slot in brief, then the flow is written and the command leaves its list.
use Rattle.places.specs.Whole.{whole}
use Rattle.acknowledge.proofs.Changes.{number_is, freed_is}
use Rattle.acknowledge.proofs.free.Goals as goal

pub returns : goal.returns
returns c =
    let a = c.args in
    let p = whole a.words.now in
    let o = c.held-o in
    let b = c.is_some in
    let f = c.flow-flow in
    let n = c.flow_without-carried in
    let v = c.put_flow in
    let y = c.leave in record {
      number = number_is p a.spot a.slot o.result o.ensures b.result c.command_at.result b.ensures c.command_at.ensures;
      kept = freed_is p a.spot a.slot o.result o.ensures (whole v.new.words) (whole y.new.words) f.result n.result f.ensures n.ensures
          v.ensures y.ensures;
    }
