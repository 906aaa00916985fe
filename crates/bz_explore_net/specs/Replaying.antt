-- Entries that are made again from the opening.
use Rattle.std.specs.Prelude.{◌≡◌, ℕ, List}
use Rattle.bz_model.specs.declared.event.Entry.{Entry}
use Rattle.bz_model.specs.Nets.{Wiring, State, opening}
use Rattle.bz_model.specs.Runs.{Follows, Run}
use Rattle.bz_net.specs.Simulation.{Adds, Simulation}

-- an entry can follow in the net's state
abbrev pub CanFollow : Simulation → Entry → Type 0
CanFollow net entry = (next : State) × Follows net.wiring net.state entry next

-- the entry was added, and the state is the only one to which it leads
pub record Repeats (old : Simulation) (entry : Entry) (new : Simulation) : Type 0 where
  pub adds : Adds old entry new
  pub sole : (next : State) → Follows old.wiring old.state entry next → new.state ≡ next

-- the entries are those of a run from the opening
abbrev pub IsRun : Wiring → List Entry → Type 0
IsRun w entries = (last : State) × Run w (opening w) entries last

-- a net whose journal is these entries, in the only state to which they lead from the opening: so it is in the state in which
-- any net of that wiring was when its journal was these entries
pub record IsReplayed (w : Wiring) (entries : List Entry) (limit : ℕ) (net : Simulation) : Type 0 where
  pub wiring : net.wiring ≡ w
  pub journal : net.journal ≡ entries
  pub limit_is : net.limit ≡ limit
  pub sole : (last : State) → Run w (opening w) entries last → net.state ≡ last
