-- What keeps a component from moving, port by port: what the look at a set tells.
use Rattle.std.specs.Prelude.{◌≡◌, ℕ, ◌+◌, ◌<◌, ◌≤◌, ⊤, Bool, true, Option, Some, None, List, length}
use Rattle.bz_model.specs.declared.channel.Move.{Move}
use Rattle.bz_model.specs.Nets.{Site, Wiring, State, IsPort, StepsAt, chan_at, proc_at}
use Rattle.bz_net.specs.Due.{HasMove}
use Rattle.bz_waits.specs.Stuck.{StuckAt, is_member}

-- a member is at an end, or nobody
abbrev pub IsIn : List Bool → Option ℕ → Type 0
IsIn row None = ⊤
IsIn row (Some c) = is_member row c ≡ true

-- every component with a port on channel k is a member
abbrev pub AllIn : List Site → List Bool → ℕ → Type 0
AllIn sites row k = (d q : ℕ) → IsPort sites d q → chan_at sites d q ≡ k → is_member row d ≡ true

-- no host and nobody but members reach channel k
abbrev pub IsKept : Wiring → List Bool → ℕ → Type 0
IsKept w row k = (length w.ports < k) × AllIn w.sites row k

-- port p keeps component c stuck
pub record PortHolds (w : Wiring) (s : State) (member : ℕ → Bool) (c p : ℕ) : Type 0 where
  pub still : StepsAt w.sites s c p → ⊥
  pub inner : (mv : Move) → IsPort w.sites c p → HasMove (proc_at s c) p mv → length w.ports < chan_at w.sites c p
  pub among : (mv : Move) → IsPort w.sites c p → HasMove (proc_at s c) p mv
      → (d q : ℕ) → IsPort w.sites d q → chan_at w.sites d q ≡ chan_at w.sites c p → member d ≡ true

-- so do the first n
abbrev pub PortsHold : Wiring → State → (ℕ → Bool) → ℕ → ℕ → Type 0
PortsHold w s member c n = (p : ℕ) → p < n + 1 → PortHolds w s member c p

-- of the first n components those that are members are stuck
abbrev pub CompsHold : Wiring → State → (ℕ → Bool) → ℕ → Type 0
CompsHold w s member n = (c : ℕ) → 0 < c → c < n + 1 → member c ≡ true → StuckAt w s member c

-- component c is a member and not kept from moving by the others
abbrev pub IsLoose : Wiring → State → List Bool → ℕ → Type 0
IsLoose w s row c = (0 < c) × (c ≤ length w.sites) × (is_member row c ≡ true) × (StuckAt w s (is_member row) c → ⊥)
