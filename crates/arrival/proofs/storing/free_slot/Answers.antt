-- `free_slot` meets its contract: the marks say what the lists name, so the lowest slot without a mark is the lowest that no list names.
use Rattle.std.proofs.Common.{◌≡◌, length, ap, ◌∙◌, rules}
use Rattle.record.specs.Lists.{incoming}
use Rattle.record.specs.Damage.{below}
use Rattle.record.specs.declared.groups.Standing.{Standing}
use Rattle.places.specs.Whole.{whole}
use Rattle.arrival.specs.Storing.{free_slot}
use Rattle.arrival.proofs.Marking.{marks_of_all}
use Rattle.arrival.proofs.storing.free_slot.Goals as goal

pub returns : goal.returns
returns c =
    let a = c.args in
    let p = whole a.words.now in
    let all : length c.mark_held.new.marks ≡ incoming = search rules in
    (rw all at c.lowest.ensures)
    ∙ marks_of_all p.lists (below p.channels c.standing-standing.result.channels) c.mark.new.marks c.mark_held.new.marks c.mark.ensures c.mark_held.ensures
    ∙ ap (λ (x : Standing). free_slot p.lists p.channels x.channels) c.standing-standing.ensures
