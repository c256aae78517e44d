-- `mark` meets its contract: the slot with one less, then the marks with the piece; each is read off the record as it then is.
use Rattle.places.specs.Whole.{whole}
use Rattle.arrive_fragment.proofs.StoreLaws.{pieced}
use Rattle.arrive_fragment.proofs.storing.mark.Goals as goal

pub returns : goal.returns
returns c =
    let m = c.put_marks in
    let w = c.with_piece-marks in
    let k = c.marks in
    let i = c.put_incoming in
    let o = c.one_less in
    let s = c.incoming_at-slot in
    let a = c.args in
    pieced a.s a.a (whole a.words.now) (whole i.new.words) (whole m.new.words) s.result o.result k.result w.result
    s.ensures o.ensures i.ensures k.ensures w.ensures m.ensures
