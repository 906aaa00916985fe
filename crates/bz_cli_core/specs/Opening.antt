-- The net that a text denotes, at its opening, and what is played on it.
use Rattle.std.specs.Prelude.{ℕ, List, Option}
use Rattle.bz_model.specs.Nets.{Wiring}
use Rattle.bz_net.specs.Headline.{Asked, Headline}
use Rattle.bz_net.specs.Simulation.{Simulation, IsOpened}
use Rattle.bz_cli_core.specs.declared.open.TextPlay.{TextPlay}
use Rattle.bz_cli_input.specs.Opening.{Denotes}

-- The net that a text denotes, at its opening, with a journal of so many entries.
abbrev pub Opens : List ℕ → Option (List ℕ) → ℕ → Simulation → Type 0
Opens text asked limit net = (w : Wiring) × Denotes text asked w × IsOpened w limit net

-- Events were played on the net that a text denotes, from its opening.
pub record PlaysText (text : List ℕ) (asked : Option (List ℕ)) (limit : ℕ) (events : List Asked) (play : TextPlay) : Type 0 where
  pub opened : Simulation
  pub opens : Opens text asked limit opened
  pub headline : Headline opened play.net events play.answers.items
