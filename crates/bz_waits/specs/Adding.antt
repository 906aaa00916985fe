-- What the functions here tell one another: how waits are added, component by component and port by port.
use Rattle.std.specs.Prelude.{ℕ, ◌<◌, ◌≤◌, Option, List, Contains, MatchOption}
use Rattle.std.specs.List.{All}
use Rattle.bz_model.specs.declared.channel.Move.{Move}
use Rattle.bz_model.specs.declared.channel.Move.TheVariants.{Take, Got}
use Rattle.bz_model.specs.Nets.{Site, State, chan_at}
use Rattle.bz_waits.specs.declared.wait.Wait.{Wait}
use Rattle.bz_waits.specs.declared.wait.Place.{Place}
use Rattle.bz_waits.specs.declared.wait.Place.TheVariants.{Each, First, Other}
use Rattle.bz_waits.specs.Waiting.{GetsNone, HasWait, IsDue, IsStuck, IsWait, Owes, WaitsOn}

-- a wait of component c at each of its ports up to n at which this move is due
pub record AddsUpTo (sites : List Site) (s : State) (c : ℕ) (mv : Move) (n : ℕ) (old new : List Wait) : Type 0 where
  pub each : All (IsWait sites s) new
  pub kept : (w : Wait) → Contains old w → Contains new w
  pub added : (p : ℕ) → p ≤ n → IsDue sites s c mv p → WaitsOn new c (chan_at sites c p)

-- at each of its ports
pub record AddsAll (sites : List Site) (s : State) (c : ℕ) (mv : Move) (old new : List Wait) : Type 0 where
  pub each : All (IsWait sites s) new
  pub kept : (w : Wait) → Contains old w → Contains new w
  pub added : (p : ℕ) → IsDue sites s c mv p → WaitsOn new c (chan_at sites c p)

-- the waits of component c, behind others
pub record AddsComp (sites : List Site) (s : State) (c : ℕ) (old new : List Wait) : Type 0 where
  pub each : All (IsWait sites s) new
  pub kept : (w : Wait) → Contains old w → Contains new w
  pub gets : (p : ℕ) → IsStuck sites s c → IsDue sites s c Got p → WaitsOn new c (chan_at sites c p)
  pub owes : (k : ℕ) → IsStuck sites s c → Owes sites s c k → HasWait new c
  pub takes : (p k : ℕ) → IsStuck sites s c → GetsNone sites s c → Owes sites s c k → IsDue sites s c Take p → WaitsOn new c (chan_at sites c p)

-- the waits of the components before c
pub record WaitsBefore (sites : List Site) (s : State) (c : ℕ) (waits : List Wait) : Type 0 where
  pub each : All (IsWait sites s) waits
  pub gets : (d p : ℕ) → d < c → IsStuck sites s d → IsDue sites s d Got p → WaitsOn waits d (chan_at sites d p)
  pub owes : (d k : ℕ) → d < c → IsStuck sites s d → Owes sites s d k → HasWait waits d
  pub takes : (d p k : ℕ) → d < c → IsStuck sites s d → GetsNone sites s d → Owes sites s d k → IsDue sites s d Take p
      → WaitsOn waits d (chan_at sites d p)

-- the first number past n of which P holds
abbrev pub IsFirstPast : (ℕ → Type 0) → ℕ → Option ℕ → Type 0
IsFirstPast P n first = MatchOption first ((p : ℕ) → n < p → P p → ⊥)
    (λ p. (n < p) × P p × ((q : ℕ) → n < q → q < p → P q → ⊥))

-- the place of the next port at which the same component waits
abbrev pub next_place : Place → Place
next_place Each = Each
next_place First = Other
next_place Other = Other
