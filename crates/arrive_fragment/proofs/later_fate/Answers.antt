-- `later_fate` asks for the fields, for those of the first piece, then for the mark: the answers pick the rule's case.
use borrow.Author.Tests.{not-true, not-false}
use Rattle.arrive_fragment.proofs.later_fate.Goals as goal

pub returns-then-not-fields_fit : goal.returns-then-not-fields_fit
returns-then-not-fields_fit c =
    let fit = c.fields_fit in
    rw (← fit.ensures, not-true fit.result c.if-not-fields_fit.true-raw)

pub returns-then-not-like_first : goal.returns-then-not-like_first
returns-then-not-like_first c =
    let like = c.like_first in
    let slot = c.incoming_at-slot in
    let fit = c.fields_fit in
    rw (← fit.ensures, ← slot.ensures, ← like.ensures, not-false fit.result c.if-not-fields_fit.false-raw, not-true like.result c.if-not-like_first.true-raw)

pub returns-then-piece_marked : goal.returns-then-piece_marked
returns-then-piece_marked c =
    let marked = c.piece_marked in
    let marks = c.marks in
    let like = c.like_first in
    let slot = c.incoming_at-slot in
    let fit = c.fields_fit in
    rw (← fit.ensures, ← slot.ensures, ← like.ensures, ← marks.ensures, ← marked.ensures, not-false fit.result c.if-not-fields_fit.false-raw, not-false like.result c.if-not-like_first.false-raw, c.if-piece_marked.true)

pub returns : goal.returns
returns c =
    let marked = c.piece_marked in
    let marks = c.marks in
    let like = c.like_first in
    let slot = c.incoming_at-slot in
    let fit = c.fields_fit in
    rw (← fit.ensures, ← slot.ensures, ← like.ensures, ← marks.ensures, ← marked.ensures, not-false fit.result c.if-not-fields_fit.false-raw, not-false like.result c.if-not-like_first.false-raw, c.if-piece_marked.false)
