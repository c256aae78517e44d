-- What an acknowledgement of a number on a channel does to the outgoing slots: it frees none; or it frees exactly one, which bears that number and
-- channel and which the three lists together then lose. What the slots hold stays.
use Rattle.std.specs.Prelude.{ℕ, ◌≡◌, true, false, List, ◌∷◌, ◌++◌, get_or}
use Rattle.cells.specs.Runs.{has}
use Rattle.record.specs.Damage.{used_out}
use Rattle.record.specs.Fresh.{no_outgoing}
use Rattle.acknowledge.specs.Removal.{is_that}
use Rattle.peer.specs.declared.Peer.{Peer}

pub record Frees (number channel : ℕ) (before after : Peer) : Type 0 where
  pub slot : ℕ
  pub front : List ℕ
  pub rest : List ℕ
  pub was : used_out before.lists ≡ front ++ (slot ∷ rest)
  pub is : used_out after.lists ≡ front ++ rest
  pub bears : is_that number channel (get_or before.outgoing slot no_outgoing) ≡ true
  pub free : has (used_out after.lists) slot ≡ false
  pub slots : after.outgoing ≡ before.outgoing

pub data Removes (number channel : ℕ) (before after : Peer) : Type 0 where
  none : after.lists ≡ before.lists → after.outgoing ≡ before.outgoing → Removes number channel before after
  one : Frees number channel before after → Removes number channel before after
