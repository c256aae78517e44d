-- The numbers of the group, to their places: `numbers_put`; the narrow ones have their widths.
use mathlib.Core.List.{[], ◌∷◌}
use native.Mathlib.Omega.{arith}
use lib.Seq.{length-sets}
use Rattle.copies.proofs.RecordLaws.{put_ids_lem}
use Rattle.copies.proofs.writing.put_ids.Goals as goal

pub bounds-words-4 : goal.bounds-words-4
bounds-words-4 c =
    omega (arith, length-sets c.args.words.now 0 (c.wide16-outgoing_peer.result ∷ c.wide16-incoming_peer.result ∷ c.args.x.connect ∷ c.wide8-outgoing_session.result ∷ []), c.told-words)

pub returns : goal.returns
returns c =
    put_ids_lem
    c.args.words.now
    c.told-words
    c.args.x
    c.wide16-outgoing_peer.result
    c.wide16-incoming_peer.result
    c.wide8-outgoing_session.result
    c.wide8-incoming_session.result
    c.wide16-outgoing_peer.ensures.is
    c.wide16-outgoing_peer.ensures.low
    c.wide16-incoming_peer.ensures.is
    c.wide16-incoming_peer.ensures.low
    c.wide8-outgoing_session.ensures.is
    c.wide8-outgoing_session.ensures.low
    c.wide8-incoming_session.ensures.is
    c.wide8-incoming_session.ensures.low
