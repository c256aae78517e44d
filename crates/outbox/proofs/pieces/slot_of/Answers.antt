-- `slot_of` meets its contract: the fields are those that the call gives, all else is copied.
use Rattle.outbox.proofs.pieces.slot_of.Goals as goal

pub returns : goal.returns
returns c = rw c.fields_now-fields.ensures
