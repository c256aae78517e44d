-- `shift` meets its contract: dispatched grows by what there is room for, and as many leave the channel's list.
use Rattle.places.specs.Whole.{whole}
use Rattle.dispatch.proofs.DispatchingPlaces.{grown, shifted}
use Rattle.dispatch.proofs.dispatching.shift.Goals as goal

pub overflow_sub-after : goal.overflow_sub-after
overflow_sub-after c =
    let m = c.count-after in
    let o = c.append in
    let n = c.count-before in
    let a = c.args in
    grown (whole a.words.now) (whole o.new.words) a.i a.k n.result m.result c.cells-cells.result c.requires.k_in_bounds c.cells-cells.ensures n.ensures o.ensures m.ensures

pub returns : goal.returns
returns c =
    let t = c.cut in
    let m = c.count-after in
    let o = c.append in
    let n = c.count-before in
    let a = c.args in
    shifted (whole a.words.now) (whole o.new.words) a.i a.k n.result m.result c.cells-cells.result c.requires.k_in_bounds c.cells-cells.ensures n.ensures o.ensures m.ensures
    (whole t.new.words) t.ensures
