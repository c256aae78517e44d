-- After i turns the first i stand there; a turn is one more.
use mathlib.Core.Path.{◌≡◌, refl, ap}
use mathlib.Core.List.{List}
use native.Mathlib.Omega.{arith}
use lib.ListN.{length, get_or}
use lib.Seq.{paste-zero}
use Rattle.record.specs.Fresh.{no_outgoing}
use Rattle.record.specs.declared.groups.Outgoing.{Outgoing}
use Rattle.peer.specs.declared.Peer.{Peer}
use Rattle.peer.specs.Updates.{with_outgoing}
use Rattle.places.specs.Whole.{whole}
use Rattle.copies.proofs.Filling.{put_turn, put-end}
use Rattle.copies.proofs.RecordLaws.{outgoing-length}
use borrow.Author.Rules.{rules}
use Rattle.copies.proofs.writing.put_outgoing.Goals as goal

pub loop-i-init : goal.loop-i-init
loop-i-init c =
    let a = c.args in
    (c.told-words, ap (with_outgoing (whole a.words.now)) (paste-zero (whole a.words.now).outgoing 0 a.all))

pub loop-i-preserved : goal.loop-i-preserved
unfolding no_outgoing
loop-i-preserved c =
    let l = c.loop-i in
    let a = c.args in
    let m : length a.all ≡ 32 = search rules in (
      search rules,
      put_turn (λ (p : Peer). p.outgoing) with_outgoing (λ (p : Peer) (x y : List Outgoing). refl) (λ (p : Peer) (x : List Outgoing). refl)
          (whole a.words.now) (whole l.words) (whole c.put_outgoing.new.words) a.all 32 l.i no_outgoing (get_or a.all l.i no_outgoing) (outgoing-length a.words.now) m (omega arith) l.invariant.1 c.put_outgoing.ensures refl,
    )

pub returns : goal.returns
returns c =
    let l = c.loop-i in
    let a = c.args in
    let m : length a.all ≡ 32 = search rules in
    put-end (λ (p : Peer). p.outgoing) with_outgoing (λ (p : Peer) (x y : List Outgoing). refl) (λ (p : Peer) (x : List Outgoing). refl)
    (whole a.words.now) (whole l.words) a.all 32 l.i (outgoing-length a.words.now) m (omega arith) l.invariant.1
