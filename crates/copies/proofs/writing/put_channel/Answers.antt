-- The channel's numbers, then its list: every write replaces its part of the channel alone.
use Prim.Native.Nat.{ℕ, ◌+◌, ◌*◌}
use mathlib.Core.Path.{◌≡◌, ◌∙◌}
use mathlib.Core.List.{List}
use lib.ListN.{length, set}
use Rattle.record.specs.declared.incoming.InList.{InList}
use Rattle.record.specs.Updates.{with_held}
use Rattle.peer.specs.Updates.{with_channels}
use Rattle.places.specs.Updates.{channel_at}
use Rattle.places.specs.Whole.{in_list_from, whole}
use Rattle.places.proofs.ChannelLaws.{put_held_lem}
use Rattle.copies.proofs.ListLaws.{list_in, channel_put}
use Rattle.places.proofs.Sized.{sized}
use borrow.Author.Rules.{rules}
use Rattle.copies.proofs.writing.put_channel.Goals as goal

pub returns : goal.returns
returns c =
    let x = c.args.x in
    let i = c.args.i in
    let ws = c.args.words.now in
    let v = c.put_outgoing.new.words in
    let w = c.put_incoming.new.words in
    let lv : length v ≡ 1236 = search rules in
    let lw : length w ≡ 1236 = search rules in
    let e : whole c.put_in.new.words ≡ with_channels (whole w) (set (whole w).channels i (with_held (channel_at (whole w) i) x.held)) =
    list_in InList in_list_from (λ (y : InList). with_channels (whole w) (set (whole w).channels i (with_held (channel_at (whole w) i) y))) w c.put_in.new.words (194 + i * 17 + 4) 12
    (λ (r : List ℕ) (h : length r ≡ 13). put_held_lem w i r c.requires h lw) x.held x.held.len x.held.slots c.put_in.ensures.long c.put_in.ensures.is c.put_in.ensures.back in
    channel_put (whole ws) (whole v) (whole w) (whole c.put_in.new.words) i x c.requires (sized ws).channels c.put_outgoing.ensures c.put_incoming.ensures e
