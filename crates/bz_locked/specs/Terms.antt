-- What a net was shared with.
use Rattle.std.specs.Prelude.{ℕ}
use Rattle.bz_model.specs.Nets.{Wiring}

-- its wiring, the most entries of its journal, how many firings were allowed, and for how many sessions
pub record Terms : Type 0 where
  pub wiring : Wiring
  pub limit : ℕ
  pub fuel : ℕ
  pub sessions : ℕ

abbrev pub terms : Wiring → ℕ → ℕ → ℕ → Terms
terms wiring limit fuel sessions = record { wiring = wiring; limit = limit; fuel = fuel; sessions = sessions }
