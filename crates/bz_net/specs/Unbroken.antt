-- Runs in which no channel is ever requested twice before its acknowledgement, nor acknowledged twice.
use Rattle.std.specs.Prelude.{◌≡◌, ◌≢◌, ℕ, List, [], ◌∷◌}
use Rattle.bz_model.specs.declared.channel.Phase.TheVariants.{Broken}
use Rattle.bz_model.specs.declared.event.Entry.{Entry}
use Rattle.bz_model.specs.Nets.{Wiring, State, phase_at}
use Rattle.bz_model.specs.Runs.{Follows}

abbrev pub IsUnbroken : State → Type 0
IsUnbroken s = (k : ℕ) → phase_at s k ≢ Broken

-- a run, in each state of which no channel is broken
abbrev pub UnbrokenRun : Wiring → State → List Entry → State → Type 0
UnbrokenRun w s [] last = IsUnbroken s × (last ≡ s)
UnbrokenRun w s (e ∷ es) last = IsUnbroken s × (next : State) × Follows w s e next × UnbrokenRun w next es last
