-- The table of ends while it is filled, and the verdict on it.
use Rattle.std.specs.Prelude.{◌≡◌, ◌≢◌, ℕ, ◌-◌, ◌<◌, ◌≤◌, ◌^◌, Bool, true, false, not, None, Some, List, length, slice_index_or, ◌⊎◌, ⊤}
use Rattle.bz_model.specs.Names.{External}
use Rattle.bz_model.specs.Nets.{Site, IsPort, site_at, chan_at, passive_at}
use Rattle.bz_model.specs.Hosts.{port_is_passive}
use Rattle.bz_flat.specs.declared.flat.Ends.{Ends}
use Rattle.bz_flat.specs.declared.error.ElabError.{ElabError}
use Rattle.bz_flat.specs.declared.error.ElabError.TheVariants.{TwoEnds, LooseEnd, PortSense, Memory}
use Rattle.bz_flat.specs.Wires.{IsEnd, HasEnd, HasTwo, IsLoose, IsMisused, IsFoundAt, end_at, end_port_at, most_comps}

-- the least number of which P holds
pub record IsLeast (P : ℕ → Type 0) (k : ℕ) : Type 0 where
  pub is_in : P k
  pub least : (j : ℕ) → P j → k ≤ j

-- what stands in the table is an end, and each end of the ports in `Seen` stands there
pub record Seated (sites : List Site) (Seen : ℕ → ℕ → Type 0) (ends : List Ends) (clash : ℕ) : Type 0 where
  pub stands : (k c : ℕ) (side : Bool) → 0 < k → end_at ends k side ≡ Some c → (p : ℕ) × (end_port_at ends k side ≡ p) × Seen c p × IsEnd sites k side c p
  pub seen : (k c p : ℕ) (side : Bool) → 0 < k → Seen c p → IsEnd sites k side c p → end_at ends k side ≢ None
  pub single : (k c p d q : ℕ) (side : Bool) → 0 < k → k < clash → Seen c p → IsEnd sites k side c p → Seen d q → IsEnd sites k side d q → (c ≡ d) × (p ≡ q)
  pub clashes : clash < 2 ^ 32 - 1 → HasTwo sites clash

-- an end was put where none of its sense stood
pub record Seats (old new : List Ends) (k : ℕ) (side : Bool) (c p : ℕ) (taken : Bool) : Type 0 where
  pub len : length new ≡ length old
  pub stood : taken ≡ true → end_at old k side ≢ None
  pub same : taken ≡ true → new ≡ old
  pub free : taken ≡ false → end_at old k side ≡ None
  pub put : taken ≡ false → end_at new k side ≡ Some c
  pub put_port : taken ≡ false → end_port_at new k side ≡ p
  pub other_chans : taken ≡ false → (j : ℕ) (s : Bool) → 0 < j → j ≢ k → end_at new j s ≡ end_at old j s
  pub other_side : taken ≡ false → end_at new k (not side) ≡ end_at old k (not side)
  pub other_ports : taken ≡ false → (j : ℕ) (s : Bool) → 0 < j → j ≢ k → end_port_at new j s ≡ end_port_at old j s
  pub other_port : taken ≡ false → end_port_at new k (not side) ≡ end_port_at old k (not side)

-- the ports before place p of component c, in the order of the net
abbrev pub Passed : ℕ → ℕ → ℕ → ℕ → Type 0
Passed c p d q = (d < c) ⊎ ((d ≡ c) × (q ≤ p))

-- component c of the net is this one
pub record IsHere (sites : List Site) (c : ℕ) (site : Site) : Type 0 where
  pub is : site_at sites c ≡ site
  pub within : c ≤ length sites

-- the channels of a component are among the net's n
abbrev pub ChansFit : ℕ → List ℕ → Type 0
ChansFit n chans = (p : ℕ) → p < length chans → (0 < slice_index_or chans p 0) × (slice_index_or chans p 0 ≤ n)

pub record CompsFit (n : ℕ) (sites : List Site) : Type 0 where
  pub few : n < 2 ^ 32 - 1
  pub comps_few : length sites ≤ most_comps
  pub each : (c : ℕ) → 0 < c → c ≤ length sites → (length (site_at sites c).chans < 2 ^ 32) × ChansFit n (site_at sites c).chans

-- each channel with a component end has one active and one passive end, the host's at an external port among them
pub record WellEnded (sites : List Site) (ports : List External) (ends : List Ends) : Type 0 where
  pub one_end : (c p d q : ℕ) → IsPort sites c p → IsPort sites d q → chan_at sites c p ≡ chan_at sites d q → passive_at sites c p ≡ passive_at sites d q → (c ≡ d) × (p ≡ q)
  pub host_end : (c p : ℕ) → IsPort sites c p → chan_at sites c p ≤ length ports → passive_at sites c p ≡ port_is_passive ports (chan_at sites c p)
  pub other_end : (c p : ℕ) → IsPort sites c p → length ports < chan_at sites c p → HasEnd sites (chan_at sites c p) (not (passive_at sites c p))
  pub finds : (c p : ℕ) → IsPort sites c p → IsFoundAt ends c p (chan_at sites c p) (passive_at sites c p)
  pub holds : (k c : ℕ) (side : Bool) → 0 < k → end_at ends k side ≡ Some c → IsEnd sites k side c (end_port_at ends k side)

-- the first refusal of a net of these components and external ports, at its least place
abbrev pub WiringFault : List Site → List External → ElabError → Type 0
WiringFault sites ports (TwoEnds k) = IsLeast (HasTwo sites) k
WiringFault sites ports (LooseEnd k) = ((j : ℕ) → HasTwo sites j → ⊥) × IsLeast (IsLoose sites ports) k
WiringFault sites ports (PortSense k) = ((j : ℕ) → HasTwo sites j → ⊥) × ((j : ℕ) → IsLoose sites ports j → ⊥) × IsLeast (IsMisused sites ports) k
WiringFault sites ports Memory = ⊤
WiringFault sites ports e = ⊥
