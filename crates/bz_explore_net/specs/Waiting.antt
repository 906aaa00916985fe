-- The channels that are not idle.
use Rattle.std.specs.Prelude.{◌≢◌, ℕ, ◌<◌, ◌≤◌, List, Contains}
use Rattle.std.specs.List.{All, AllPairs}
use Rattle.bz_model.specs.declared.channel.Phase.TheVariants.{Idle}
use Rattle.bz_model.specs.Nets.{State, phase_at}

-- channel k is one of the first n, and a handshake is under way on it
pub record IsBusy (s : State) (n k : ℕ) : Type 0 where
  pub from : 0 < k
  pub to : k ≤ n
  pub busy : phase_at s k ≢ Idle

abbrev pub IsLess : ℕ → ℕ → Type 0
IsLess j k = j < k

-- those, each once, in order
pub record AreBusy (s : State) (n : ℕ) (chans : List ℕ) : Type 0 where
  pub each : All (IsBusy s n) chans
  pub all : (k : ℕ) → IsBusy s n k → Contains chans k
  pub once : AllPairs IsLess chans
