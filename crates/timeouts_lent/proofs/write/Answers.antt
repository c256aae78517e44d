-- `write` meets its contract: the machine's number of a flag is the rule's.
use mathlib.Core.Path.{◌≡◌, refl}
use mathlib.Core.Bool.{Bool, true, false}
use mir.Val.{bool_byte}
use Rattle.timeouts_lent.specs.Walking.{byte_of}
use Rattle.timeouts_lent.proofs.write.Goals as goal

byte_is : (flag : Bool) → bool_byte flag ≡ byte_of flag
byte_is true = refl
byte_is false = refl

pub returns : goal.returns
returns c = simp byte_is
