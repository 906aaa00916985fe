-- The numbers of members, gathered one after another.
use Rattle.std.proofs.Common.{◌≡◌, ℕ, ◌<◌, ◌≤◌, Bool, true, List}
use Rattle.std.specs.List.{All, Contains}
use Rattle.std.specs.List.Sorted.{IsStrictlyIncreasing}
use Rattle.bz_waits.specs.Stuck.{is_member}

-- the numbers of the members up to n
pub record NumbersUpTo (row : List Bool) (n : ℕ) (numbers : List ℕ) : Type 0 where
  pub each : All (λ c. is_member row c ≡ true) numbers
  pub within : All (λ c. c ≤ n) numbers
  pub whole : (c : ℕ) → 0 < c → c ≤ n → is_member row c ≡ true → Contains numbers c
  pub rising : IsStrictlyIncreasing numbers
