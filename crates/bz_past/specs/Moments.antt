-- Moments of a net under a lock, and which leads to which.
use Rattle.std.specs.Prelude.{◌≡◌, ℕ, ◌≤◌, Bool, true, ⊤, List, [], ◌∷◌, ◌++◌, length}
use Rattle.bz_model.specs.declared.event.Entry.{Entry}
use Rattle.bz_model.specs.Runs.{Run}
use Rattle.bz_net.specs.Simulation.{Simulation}
use Rattle.bz_past.specs.declared.standing.Turn.{Turn}
use Rattle.bz_past.specs.declared.view.Moment.{Moment}

abbrev pub moment : Simulation → Bool → List Turn → Moment
moment net stopped turns = record { net = net; stopped = stopped; turns = turns }

-- they came while the journal had so many entries at least, and so many at most
abbrev pub AreWithin : ℕ → ℕ → List Turn → Type 0
AreWithin from to [] = ⊤
AreWithin from to (t ∷ ts) = (from ≤ t.at) × (t.at ≤ to) × AreWithin from to ts

-- The second comes of the first: its journal begins with the first one's, and the rest of it leads from that state to this one.
-- What was stopped stays so. Sessions have turned as they had at the first, and then as they did while the journal grew so.
pub record Leads (a b : Moment) : Type 0 where
  pub wiring : b.net.wiring ≡ a.net.wiring
  pub limit : b.net.limit ≡ a.net.limit
  pub rest : List Entry
  pub journal : b.net.journal ≡ a.net.journal ++ rest
  pub run : Run a.net.wiring a.net.state rest b.net.state
  pub stays : a.stopped ≡ true → b.stopped ≡ true
  pub later : List Turn
  pub turns : b.turns ≡ a.turns ++ later
  pub within : AreWithin (length a.net.journal) (length b.net.journal) later
