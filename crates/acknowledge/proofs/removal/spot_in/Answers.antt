-- `spot_in` asks the three searches in their order: the first that finds it says where.
use Rattle.std.proofs.Common.{ℕ, Bool, true, false, map}
use Rattle.numbers.specs.declared.counters.Reliable.{Reliable}
use Rattle.peer.specs.declared.Peer.{Peer}
use Rattle.places.specs.Whole.{whole}
use Rattle.acknowledge.specs.CodeSearches.{look_of, at}
use Rattle.acknowledge.specs.declared.removal.Seen.{Seen}
use Rattle.acknowledge.proofs.RemovalChanges.{spot_sent, spot_outgoing, spot_reliable, spot_nowhere}
use Rattle.acknowledge.proofs.removal.spot_in.Goals as goal

-- what a search makes of a slot
abbrev made : Peer → Reliable → ℕ → Bool → ℕ → Seen
made p number channel sent s = at (map (look_of sent number.0 channel) p.outgoing) s

pub returns-in-Some : goal.returns-in-Some
returns-in-Some c =
    let a = c.args in
    let p = whole a.words.now in
    let s = c.seek-f in
    spot_sent (made p a.number a.channel true) (made p a.number a.channel false) p.lists s.result s.ensures _ c.in-Some.is

pub returns-in-Some-f : goal.returns-in-Some-f
returns-in-Some-f c =
    let a = c.args in
    let p = whole a.words.now in
    let s = c.seek-f in
    let q = c.seek-f-2 in
    spot_outgoing (made p a.number a.channel true) (made p a.number a.channel false) p.lists s.result s.ensures c.in_default.is
    q.result q.ensures _ c.in-Some-f.is

pub returns-in-Some-f-2 : goal.returns-in-Some-f-2
returns-in-Some-f-2 c =
    let a = c.args in
    let p = whole a.words.now in
    let s = c.seek-f in
    let q = c.seek-f-2 in
    let r = c.seek-f-3 in
    spot_reliable (made p a.number a.channel true) (made p a.number a.channel false) p.lists s.result s.ensures c.in_default.is
    q.result q.ensures c.in_default-f.is r.result r.ensures _ c.in-Some-f-2.is

pub returns : goal.returns
returns c =
    let a = c.args in
    let p = whole a.words.now in
    let s = c.seek-f in
    let q = c.seek-f-2 in
    let r = c.seek-f-3 in
    spot_nowhere (made p a.number a.channel true) (made p a.number a.channel false) p.lists s.result s.ensures c.in_default.is
    q.result q.ensures c.in_default-f.is r.result r.ensures c.in_default-f-2.is
