-- `placed` meets its contract: each call's answer stands where the definition has its rule.
use Rattle.outbox.proofs.placed.Goals as goal

pub returns : goal.returns
returns c = rw (c.wrapping_add_u32.ensures.value, c.grown.ensures)
