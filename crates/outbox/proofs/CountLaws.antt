-- A channel that is there is read the same whatever stands for one that is not; and the rest never steps the reliable number.
use Rattle.std.proofs.Common.{◌≡◌, ℕ, Bool, true, false, eqb, refl}
use Rattle.numbers.specs.Pick.{pick}
use Rattle.outbox.specs.Counting.{unreliable_step, rest_step}
use Rattle.outbox.specs.declared.counting.Counters.{Counters}

pub rest_reliable : (offset : ℕ) (k : Counters) → (rest_step offset k).reliable ≡ k.reliable
rest_reliable offset k = go (eqb offset 0)
  where
    go : (b : Bool) → (pick b (unreliable_step k) k).reliable ≡ k.reliable
    go true = refl
    go false = refl
