-- For functions inside the house alone: the record after the first k of a channel's list went. Nothing here need be believed.
use Rattle.std.specs.Prelude.{ℕ}
use Rattle.record.specs.Lists.{incoming, in_items, in_keep}
use Rattle.cells.specs.Runs.{moved_from, moved_to}
use Rattle.record.specs.Updates.{with_dispatched, with_held}
use Rattle.peer.specs.declared.Peer.{Peer}
use Rattle.places.specs.Updates.{channel_at}
use Rattle.dispatch.specs.Calls.{with_dispatch}

-- the lists alone
abbrev pub shifted_on : ℕ → ℕ → Peer → Peer
shifted_on i k p =
    let c = channel_at p i in
    let held = in_items c.held in
    let dispatched = in_items p.lists.dispatched in
    with_dispatch i
    (record {
      channel = with_held c (in_keep c.held (moved_from incoming k held dispatched));
      lists = with_dispatched p.lists (in_keep p.lists.dispatched (moved_to incoming k held dispatched));
      unsequenced = p.unsequenced;
    })
    p
