-- What the functions of the search tell one another.
use Rattle.std.specs.Prelude.{◌≡◌, ℕ, ◌+◌, ◌<◌, ◌≤◌, List, length, map, take}
use Rattle.bz_model.specs.declared.event.Entry.{Entry}
use Rattle.bz_model.specs.Entries.{told}
use Rattle.bz_model.specs.Nets.{Wiring, State, opening}
use Rattle.bz_model.specs.Runs.{Follows, Run}
use Rattle.bz_flat.specs.Wires.{WellWired}
use Rattle.bz_net.specs.Simulation.{Simulation}
use Rattle.bz_since.specs.declared.halving.Bounds.{Bounds}
use Rattle.bz_since.specs.Since.{HasStuck}

-- Whatever entry is told as this one leads from the one state to the other.
pub record Goes (old : Simulation) (entry : Entry) (new : Simulation) : Type 0 where
  pub wiring : new.wiring ≡ old.wiring
  pub limit : new.limit ≡ old.limit
  pub sole : (other : Entry) (next : State) → told other ≡ told entry → Follows old.wiring old.state other next → next ≡ new.state

-- each run that is told as these entries ends in this state
abbrev pub EndsIn : Wiring → List Entry → State → Type 0
EndsIn w entries s = (es : List Entry) (t : State) → map told es ≡ map told entries → Run w (opening w) es t → t ≡ s

-- a net where the first entries of a list, so many, lead to goes to where more of them lead to
pub record LeadsOn (entries : List Entry) (from to : ℕ) (old new : Simulation) : Type 0 where
  pub wiring : new.wiring ≡ old.wiring
  pub limit : new.limit ≡ old.limit
  pub ends : EndsIn old.wiring (take from entries) old.state → EndsIn old.wiring (take to entries) new.state

-- each run that is told as these entries ends where something is stuck
abbrev pub EndsStuck : Wiring → List Entry → Type 0
EndsStuck w entries = (es : List Entry) (t : State) → map told es ≡ map told entries → Run w (opening w) es t → HasStuck w t

-- the bounds of the search: the one above is within the entries or one past the end
pub record IsBetween (entries : List Entry) (b : Bounds) : Type 0 where
  pub wired : WellWired b.low.wiring
  pub ordered : b.from < b.to
  pub within : b.to ≤ length entries + 1
  pub ends : EndsIn b.low.wiring (take b.from entries) b.low.state
  pub free : HasStuck b.low.wiring b.low.state → ⊥
  pub above : b.to ≤ length entries → EndsStuck b.low.wiring (take b.to entries)
