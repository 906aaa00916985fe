-- Cycles of components that wait for one another in any case.
use Rattle.std.specs.Prelude.{◌≡◌, ℕ, ◌+◌, ◌-◌, ◌<◌, List, Contains, length, slice_index}
use Rattle.std.specs.Global.{Global}
use Rattle.std.specs.declared.vec.Vec.{Vec}
use Rattle.std.specs.List.{All}
use Rattle.bz_waits.specs.declared.wait.Wait.{Wait}
use Rattle.bz_waits.specs.Waiting.{IsLink}

-- by one of these waits component c waits in any case for d, which is not idle
abbrev pub WaitsFor : List Wait → ℕ → ℕ → Type 0
WaitsFor waits c d = (w : Wait) × Contains waits w × (w.comp ≡ c) × (w.other ≡ d) × IsLink w

-- each member waits for the next, and the last for the first
pub record IsCycle (waits : List Wait) (cycle : List ℕ) : Type 0 where
  pub some : 0 < length cycle
  pub next : (i : ℕ) → i + 1 < length cycle → WaitsFor waits (slice_index cycle i) (slice_index cycle (i + 1))
  pub back : WaitsFor waits (slice_index cycle (length cycle - 1)) (slice_index cycle 0)

abbrev pub AreCycles : List Wait → List (Vec ℕ Global) → Type 0
AreCycles waits found = All (λ cycle. IsCycle waits cycle.items) found
