-- After i turns the first i stand there; a turn is one more.
use mathlib.Core.Path.{◌≡◌, refl, ap}
use mathlib.Core.List.{List}
use native.Mathlib.Omega.{arith}
use lib.ListN.{length, get_or}
use lib.Seq.{paste-zero}
use Rattle.record.specs.Fresh.{no_incoming}
use Rattle.record.specs.declared.groups.Incoming.{Incoming}
use Rattle.peer.specs.declared.Peer.{Peer}
use Rattle.places.specs.Updates.{with_incoming}
use Rattle.places.specs.Whole.{whole}
use Rattle.copies.proofs.Filling.{put_turn, put-end}
use Rattle.copies.proofs.RecordLaws.{incoming-length}
use borrow.Author.Rules.{rules}
use Rattle.copies.proofs.writing.put_incoming.Goals as goal

pub loop-i-init : goal.loop-i-init
loop-i-init c =
    let a = c.args in
    (c.told-words, ap (with_incoming (whole a.words.now)) (paste-zero (whole a.words.now).incoming 0 a.all))

pub loop-i-preserved : goal.loop-i-preserved
unfolding no_incoming
loop-i-preserved c =
    let l = c.loop-i in
    let a = c.args in
    let m : length a.all ≡ 12 = search rules in (
      search rules,
      put_turn (λ (p : Peer). p.incoming) with_incoming (λ (p : Peer) (x y : List Incoming). refl) (λ (p : Peer) (x : List Incoming). refl)
          (whole a.words.now) (whole l.words) (whole c.put_incoming.new.words) a.all 12 l.i no_incoming (get_or a.all l.i no_incoming) (incoming-length a.words.now) m (omega arith) l.invariant.1 c.put_incoming.ensures refl,
    )

pub returns : goal.returns
returns c =
    let l = c.loop-i in
    let a = c.args in
    let m : length a.all ≡ 12 = search rules in
    put-end (λ (p : Peer). p.incoming) with_incoming (λ (p : Peer) (x y : List Incoming). refl) (λ (p : Peer) (x : List Incoming). refl)
    (whole a.words.now) (whole l.words) a.all 12 l.i (incoming-length a.words.now) m (omega arith) l.invariant.1
