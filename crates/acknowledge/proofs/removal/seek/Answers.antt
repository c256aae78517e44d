-- What the search finds in the whole list is what it finds in what is left of it, a turn at a time.
use Rattle.std.proofs.Common.{sym, ap, arith, take_all}
use Rattle.acknowledge.specs.Removal.{seek}
use Rattle.acknowledge.proofs.RemovalChanges.{turn_found, turn_ends, turn_goes_on, turn_end}
use Rattle.acknowledge.proofs.removal.seek.Invariants.{named, made}
use Rattle.acknowledge.proofs.removal.seek.Goals as goal

pub loop-k-init : goal.loop-k-init
loop-k-init c =
    let a = c.args in
    let xs = named a.words.now a.list in
    let f = made a.words.now a.number a.channel a.sent in
    let n = c.count-k-end in
    (n.ensures, ap (seek f 0) (sym (take_all n.result xs (omega (arith, n.ensures)))))

pub returns-in-Found : goal.returns-in-Found
returns-in-Found c =
    let l = c.look in
    let s = c.slot_at-s in
    let m = c.loop-k in
    let a = c.args in
    let ws = a.words.now in
    turn_found (made ws a.number a.channel a.sent) (named ws a.list) _ m.k m.invariant.0 m.invariant.1 (omega arith) s.result l.result s.ensures l.ensures c.in-Found.is

pub returns-in-Ends : goal.returns-in-Ends
returns-in-Ends c =
    let l = c.look in
    let s = c.slot_at-s in
    let m = c.loop-k in
    let a = c.args in
    let ws = a.words.now in
    turn_ends (made ws a.number a.channel a.sent) (named ws a.list) _ m.k m.invariant.0 m.invariant.1 (omega arith) s.result l.result s.ensures l.ensures c.in-Ends.is

pub loop-k-preserved : goal.loop-k-preserved
loop-k-preserved c =
    let l = c.look in
    let s = c.slot_at-s in
    let m = c.loop-k in
    let a = c.args in
    let ws = a.words.now in
    let on =
    turn_goes_on (made ws a.number a.channel a.sent) (named ws a.list) _ m.k m.invariant.0 m.invariant.1 (omega arith) s.result l.result s.ensures l.ensures c.in-GoesOn.is in
    (m.invariant.0, on)

pub returns : goal.returns
returns c =
    let m = c.loop-k in
    let a = c.args in
    let ws = a.words.now in
    turn_end (made ws a.number a.channel a.sent) (named ws a.list) _ m.k m.invariant.0 m.invariant.1 (omega arith)
