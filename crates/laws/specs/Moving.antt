-- What a timeout check does to the outgoing slots: it moves some of the sent ones and frees none. The moved ones stand in front of what stood in
-- their list, in the order in which they stood in sent, and what stays in sent keeps its order too. A slot keeps all that it holds but its timeout.
use Rattle.std.specs.Prelude.{ℕ, ◌≡◌, List, ◌++◌, get_or}
use Rattle.cells.specs.Runs.{has}
use Rattle.record.specs.Lists.{out_items}
use Rattle.record.specs.Fresh.{no_outgoing}
use Rattle.record.specs.Damage.{used_out}
use Rattle.record.specs.Updates.{with_timeout}
use Rattle.peer.specs.declared.Peer.{Peer}
use Rattle.overdue.specs.Overdue.{stays, back_outgoing, back_reliable}
use Rattle.overdue.specs.Walking.{bearing}

pub record Moves (before after : Peer) : Type 0 where
  pub marks : List ℕ
  pub sent : out_items after.lists.sent ≡ bearing stays marks (out_items before.lists.sent)
  pub send_reliable : out_items after.lists.send_reliable ≡ bearing back_reliable marks (out_items before.lists.sent) ++ out_items before.lists.send_reliable
  pub outgoing : out_items after.lists.outgoing ≡ bearing back_outgoing marks (out_items before.lists.sent) ++ out_items before.lists.outgoing
  pub names : (k : ℕ) → has (used_out after.lists) k ≡ has (used_out before.lists) k
  pub slots : (k : ℕ)
      → get_or after.outgoing k no_outgoing ≡ with_timeout (get_or before.outgoing k no_outgoing) (get_or after.outgoing k no_outgoing).timeout
