-- What a net keeps whatever its journal tells: all that speaks of one state alone.
use Rattle.std.specs.Prelude.{◌≡◌, ◌≤◌, ◌^◌, ℕ, Bool, Option, List, length}
use Rattle.bz_model.specs.declared.channel.Move.{Move}
use Rattle.bz_model.specs.declared.channel.Phase.{Phase}
use Rattle.bz_model.specs.Heads.{Component}
use Rattle.bz_model.specs.Nets.{Wiring, State, Step}
use Rattle.bz_flat.specs.declared.flat.Ends.{Ends}
use Rattle.bz_flat.specs.Wires.{WellWired, EndsOf}
use Rattle.bz_net.specs.Keeping.{Tied, MarksReady, state_of}
use Rattle.bz_net.specs.Told.{Told, HasChans, here_at}

-- a wiring and a state of it
pub record Standing : Type 0 where
  pub wiring : Wiring
  pub state : State

-- no other step was there for c to make at p
abbrev pub IsSole : Standing → Standing → ℕ → ℕ → ℕ → Move → Option ℕ → Type 0
IsSole old new c p k mv value = (j : ℕ) (mw : Move) (other : Option ℕ) (next : State) → Step old.wiring.sites old.state c p j mw other next
    → (k ≡ j) × (mv ≡ mw) × (value ≡ other) × (new.state ≡ next)

pub record CoreSound (w : Wiring) (phases : List Phase) (comps : List Component) (heres : List (List ℕ)) (ends : List Ends) (row : List Bool) : Type 0 where
  pub wired : WellWired w
  pub ends_of : EndsOf w ends
  pub tied : Tied w phases comps
  pub chans_of : HasChans w.sites comps
  pub told : Told w phases heres
  pub few : (c : ℕ) → length (here_at heres c) ≤ 2 ^ 26
  pub ready : MarksReady w (state_of phases comps) row
