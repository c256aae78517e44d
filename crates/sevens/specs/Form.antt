-- What it says of bytes that they were read as a number: they begin with its groups, and with no others.
use Rattle.std.specs.Prelude.{ℕ, ◌^◌, ◌≤◌, ◌<◌, ◌≡◌, List, length, take}
use Rattle.sevens.specs.Groups.{groups}

-- v was read of bs in k groups, n at most
pub record Form (n : ℕ) (bs : List ℕ) (v k : ℕ) : Type 0 where
  pub small : v < 128 ^ n
  pub some : 1 ≤ k
  pub there : k ≤ length bs
  pub count : k ≡ length (groups n v)
  pub begins : take k bs ≡ groups n v
