-- Components that are in no stuck set: what the search takes out.
use Rattle.std.specs.Prelude.{◌≡◌, ◌⊎◌, ℕ, ◌+◌, ◌<◌, ◌≤◌, Bool, true, false, List, length}
use Rattle.std.specs.List.{All}
use Rattle.bz_model.specs.declared.channel.Move.{Move}
use Rattle.bz_model.specs.Nets.{Wiring, State, IsPort, chan_at, proc_at}
use Rattle.bz_net.specs.Due.{HasMove}
use Rattle.bz_waits.specs.Stuck.{AreStuck, IsGreatest, is_member}

-- component c is in no stuck set
pub record IsFree (w : Wiring) (s : State) (c : ℕ) : Type 0 where
  pub from : 0 < c
  pub to : c ≤ length w.sites
  pub none : (other : ℕ → Bool) → AreStuck w s other → other c ≡ true → ⊥

-- a row for all components, of which each that is in a stuck set is a member
pub record Covers (w : Wiring) (s : State) (row : List Bool) : Type 0 where
  pub len : length row ≡ length w.sites + 1
  pub first : is_member row 0 ≡ false
  pub greatest : IsGreatest w s (is_member row)

-- and what was taken out of it
pub record Frees (w : Wiring) (s : State) (row : List Bool) (freed : List ℕ) : Type 0 where
  pub covers : Covers w s row
  pub each : All (IsFree w s) freed

-- a host reaches channel k, or a component that is in no stuck set
abbrev pub IsOpen : Wiring → State → ℕ → Type 0
IsOpen w s k = (k ≤ length w.ports) ⊎ ((d q : ℕ) × IsFree w s d × IsPort w.sites d q × (chan_at w.sites d q ≡ k))

-- component c has a move due at a port on channel k
abbrev pub HasDueOn : Wiring → State → ℕ → ℕ → Type 0
HasDueOn w s c k = (p : ℕ) × (mv : Move) × IsPort w.sites c p × (chan_at w.sites c p ≡ k) × HasMove (proc_at s c) p mv
