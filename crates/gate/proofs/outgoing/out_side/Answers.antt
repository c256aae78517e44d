-- Each list is asked from the marks of those before it; the first that is not well says no.
use borrow.Author.Tests.{not-true, not-false}
use Rattle.gate.proofs.Three.{sent_no, reliable_no, outgoing_says}
use Rattle.gate.proofs.outgoing.out_side.Goals as goal

pub returns-then-not-list_sound : goal.returns-then-not-list_sound
returns-then-not-list_sound c =
    let a = c.args in
    let ws = a.words.now in
    let x = c.list_sound in
    let m₁ = x.new.marks in
    sent_no ws a.count x.result m₁ x.ensures (not-true _ c.if-not-list_sound.true-raw)

pub returns-then-not-list_sound-2 : goal.returns-then-not-list_sound-2
returns-then-not-list_sound-2 c =
    let a = c.args in
    let ws = a.words.now in
    let x = c.list_sound in
    let m₁ = x.new.marks in
    let y = c.list_sound-2 in
    let m₂ = y.new.marks in
    reliable_no ws a.count x.result m₁ x.ensures (not-false _ c.if-not-list_sound.false-raw) y.result m₂ y.ensures (not-true _ c.if-not-list_sound-2.true-raw)

pub returns : goal.returns
returns c =
    let a = c.args in
    let ws = a.words.now in
    let x = c.list_sound in
    let m₁ = x.new.marks in
    let y = c.list_sound-2 in
    let m₂ = y.new.marks in
    let z = c.list_sound-3 in
    outgoing_says ws a.count x.result m₁ x.ensures (not-false _ c.if-not-list_sound.false-raw) y.result m₂ y.ensures (not-false _ c.if-not-list_sound-2.false-raw) z.result z.new.marks z.ensures
