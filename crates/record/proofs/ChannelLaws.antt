-- The peer itself is a channel that a command may be on, whatever the count. By cases of the test that stands first.
use Prim.Native.Nat.{ℕ}
use mathlib.Core.Path.{◌≡◌, refl}
use mathlib.Core.Bool.{Bool, true, false}
use lib.Dec.{ltb}
use Rattle.numbers.specs.Pick.{pick}
use Rattle.record.specs.Sizes.{itself}
use Rattle.record.specs.Channels.{is_itself, on_channel}

pub itself_on : (count : ℕ) → on_channel itself count ≡ true
itself_on count = go (ltb itself count)
  where
    go : (b : Bool) → pick b true (is_itself itself) ≡ true
    go true = refl
    go false = refl
