-- After i turns the first i stand there; a turn is one more.
use mathlib.Core.Path.{◌≡◌, refl, ap}
use mathlib.Core.List.{List, []}
use native.Mathlib.Omega.{arith}
use lib.ListN.{length, get_or}
use lib.Seq.{paste-zero}
use Rattle.record.specs.declared.groups.Channel.{Channel}
use Rattle.peer.specs.declared.Peer.{Peer}
use Rattle.peer.specs.Updates.{with_channels}
use Rattle.places.specs.Whole.{whole}
use Rattle.copies.proofs.Filling.{put_turn, put-end}
use Rattle.places.proofs.Sized.{sized}
use borrow.Author.Rules.{rules}
use Rattle.copies.proofs.writing.put_channels.Goals as goal

-- what stands past the end of an array of channels
abbrev zeros : Channel
zeros =
    record {
      outgoing_reliable = record { 0 = 0 };
      outgoing_unreliable = record { 0 = 0 };
      incoming_reliable = record { 0 = 0 };
      incoming_unreliable = record { 0 = 0 };
      held = record { len = 0; slots = [] };
    }

pub loop-i-init : goal.loop-i-init
loop-i-init c =
    let a = c.args in
    (c.told-words, ap (with_channels (whole a.words.now)) (paste-zero (whole a.words.now).channels 0 a.all))

pub loop-i-preserved : goal.loop-i-preserved
loop-i-preserved c =
    let l = c.loop-i in
    let a = c.args in
    let m : length a.all ≡ 8 = search rules in (
      search rules,
      put_turn (λ (p : Peer). p.channels) with_channels (λ (p : Peer) (x y : List Channel). refl) (λ (p : Peer) (x : List Channel). refl)
          (whole a.words.now) (whole l.words) (whole c.put_channel.new.words) a.all 8 l.i zeros (get_or a.all l.i zeros) (sized a.words.now).channels m (omega arith) l.invariant.1 c.put_channel.ensures refl,
    )

pub returns : goal.returns
returns c =
    let l = c.loop-i in
    let a = c.args in
    let m : length a.all ≡ 8 = search rules in
    put-end (λ (p : Peer). p.channels) with_channels (λ (p : Peer) (x y : List Channel). refl) (λ (p : Peer) (x : List Channel). refl)
    (whole a.words.now) (whole l.words) a.all 8 l.i (sized a.words.now).channels m (omega arith) l.invariant.1
