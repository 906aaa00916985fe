-- What a net gains while a short trace is made whole on it.
use Rattle.std.specs.Prelude.{◌≡◌, ℕ, suc, ◌<◌, Option, List, ◌++◌, length, take, MatchOption}
use Rattle.std.specs.List.{AllByRecursion}
use Rattle.bz_model.specs.Entries.{HasWho}
use Rattle.bz_model.specs.Limits.{max_entries}
use Rattle.bz_model.specs.Nets.{Wiring}
use Rattle.bz_net.specs.Simulation.{Simulation}
use Rattle.bz_complete.specs.Shown.{shown}
use Rattle.bz_complete.specs.declared.completing.Completed.{Completed}
use Rattle.bz_complete.specs.declared.short.ShortMove.{ShortMove}

-- Entries were added that show these moves, by hosts and workers in range.
pub record Gains (old new : Simulation) (more : List ShortMove) : Type 0 where
  pub wiring : new.wiring ≡ old.wiring
  pub limit : new.limit ≡ old.limit
  pub by : AllByRecursion HasWho old.journal → AllByRecursion HasWho new.journal
  pub shows : shown new.journal ≡ shown old.journal ++ more

-- The entries of a net of this wiring show these moves.
pub record IsMade (w : Wiring) (moves : List ShortMove) (net : Simulation) : Type 0 where
  pub wiring : net.wiring ≡ w
  pub limit : net.limit ≡ max_entries
  pub by : AllByRecursion HasWho net.journal
  pub shows : shown net.journal ≡ moves

-- the moves before that of this line, counted from 1, which is there
abbrev pub IsFront : (List ShortMove → Type 0) → List ShortMove → ℕ → Type 0
IsFront Of moves line = (place : ℕ) × (line ≡ suc place) × (place < length moves) × Of (take place moves)

-- all of the moves, or those before that of a line
abbrev pub GainsUpTo : Simulation → Simulation → List ShortMove → Option ℕ → Type 0
GainsUpTo old new moves stop = MatchOption stop (Gains old new moves) (IsFront (Gains old new) moves)

abbrev pub IsCompleted : Wiring → List ShortMove → Completed → Type 0
IsCompleted w moves c = MatchOption c.stop (IsMade w moves c.net) (IsFront (λ front. IsMade w front c.net) moves)
