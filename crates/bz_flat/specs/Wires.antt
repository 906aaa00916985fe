-- The ends of channels: which port of which component holds which end.
use Rattle.std.specs.Prelude.{◌≡◌, ℕ, ◌-◌, ◌<◌, ◌≤◌, ◌^◌, Bool, true, false, not, Option, None, Some, List, length, map, slice_index_or}
use Rattle.bz_model.specs.Names.{External, NamesDiffer}
use Rattle.bz_model.specs.Limits.{max_width}
use Rattle.bz_model.specs.Rows.{MeetsRow}
use Rattle.bz_model.specs.Nets.{Site, Wiring, IsPort, site_at, chan_at, passive_at, chan_in}
use Rattle.bz_model.specs.Hosts.{port_is_passive}
use Rattle.bz_flat.specs.declared.flat.Ends.{Ends}

-- port p of component c holds the end of channel k of this sense, passive where `side` is true
pub record IsEnd (sites : List Site) (k : ℕ) (side : Bool) (c p : ℕ) : Type 0 where
  pub is_port : IsPort sites c p
  pub on : chan_at sites c p ≡ k
  pub sense : passive_at sites c p ≡ side

-- some component's port does
abbrev pub HasEnd : List Site → ℕ → Bool → Type 0
HasEnd sites k side = (c p : ℕ) × IsEnd sites k side c p

-- the greatest numbers of components and of channels of a net
abbrev pub most_comps : ℕ
most_comps = 1000000

abbrev pub most_chans : ℕ
most_chans = 2000000

-- Each channel with a component end has one end of each sense, the host's at an external port among them, and each
-- component's channels meet the row of its kind. No two ports have one name, and none is wider than the greatest width.
pub record WellWired (w : Wiring) : Type 0 where
  pub chan_from : (c p : ℕ) → IsPort w.sites c p → 0 < chan_at w.sites c p
  pub chan_to : (c p : ℕ) → IsPort w.sites c p → chan_at w.sites c p ≤ length w.chans
  pub one_end : (c p d q : ℕ) → IsPort w.sites c p → IsPort w.sites d q → chan_at w.sites c p ≡ chan_at w.sites d q
      → passive_at w.sites c p ≡ passive_at w.sites d q → (c ≡ d) × (p ≡ q)
  pub host_end : (c p : ℕ) → IsPort w.sites c p → chan_at w.sites c p ≤ length w.ports
      → passive_at w.sites c p ≡ port_is_passive w.ports (chan_at w.sites c p)
  pub other_end : (c p : ℕ) → IsPort w.sites c p → length w.ports < chan_at w.sites c p
      → HasEnd w.sites (chan_at w.sites c p) (not (passive_at w.sites c p))
  pub rows : (c : ℕ) → 0 < c → c ≤ length w.sites
      → MeetsRow (site_at w.sites c).kind (site_at w.sites c).sizes (map (chan_in w.chans) (site_at w.sites c).chans)
  pub ports_to : length w.ports ≤ length w.chans
  pub names_differ : NamesDiffer w.ports
  pub ports_narrow : (k : ℕ) → 0 < k → k ≤ length w.ports → (chan_in w.chans k).width ≤ max_width
  pub chans_few : length w.chans ≤ most_chans
  pub comps_few : length w.sites ≤ most_comps
  pub ports_few : (c : ℕ) → length (site_at w.sites c).chans < 2 ^ 32

-- the component at one end of a channel, the passive end where the side is true
abbrev pub at_side : Ends → Bool → Option ℕ
at_side pair true = pair.passive
at_side pair false = pair.active

-- its port there
abbrev pub port_of_side : Ends → Bool → ℕ
port_of_side pair true = pair.passive_port
port_of_side pair false = pair.active_port

abbrev pub no_ends : Ends
no_ends = record { active = None; passive = None; active_port = 0; passive_port = 0 }

abbrev pub ends_in : List Ends → ℕ → Ends
ends_in ends k = slice_index_or ends (k - 1) no_ends

abbrev pub end_at : List Ends → ℕ → Bool → Option ℕ
end_at ends k side = at_side (ends_in ends k) side

abbrev pub end_port_at : List Ends → ℕ → Bool → ℕ
end_port_at ends k side = port_of_side (ends_in ends k) side

-- what stands at an end is a component
pub record StandsIn (sites : List Site) (ends : List Ends) : Type 0 where
  pub from : (k c : ℕ) (side : Bool) → end_at ends k side ≡ Some c → 0 < c
  pub to : (k c : ℕ) (side : Bool) → end_at ends k side ≡ Some c → c ≤ length sites

-- port p of component c stands at this end of channel k
abbrev pub IsFoundAt : List Ends → ℕ → ℕ → ℕ → Bool → Type 0
IsFoundAt ends c p k side = (end_at ends k side ≡ Some c) × (end_port_at ends k side ≡ p)

-- the ends are those of the wiring
pub record EndsOf (w : Wiring) (ends : List Ends) : Type 0 where
  pub ends_len : length ends ≡ length w.chans
  pub finds : (c p : ℕ) → IsPort w.sites c p → IsFoundAt ends c p (chan_at w.sites c p) (passive_at w.sites c p)
  pub stands : StandsIn w.sites ends
  pub holds : (k c : ℕ) (side : Bool) → 0 < k → end_at ends k side ≡ Some c → IsEnd w.sites k side c (end_port_at ends k side)

-- What is wrong with the ends of a net.

-- two ports hold one end of channel k
abbrev pub HasTwo : List Site → ℕ → Type 0
HasTwo sites k = (side : Bool) × (c p d q : ℕ) × IsEnd sites k side c p × IsEnd sites k side d q × ((c ≡ d) × (p ≡ q) → ⊥)

-- one component end alone, and no host at the other
abbrev pub IsLoose : List Site → List External → ℕ → Type 0
IsLoose sites ports k = (length ports < k) × (side : Bool) × HasEnd sites k side × (HasEnd sites k (not side) → ⊥)

-- An external port with a component end where the host's is to be: beside another one, or alone and of the other sense
-- than declared. (Two ends of the declared sense are `HasTwo`.)
abbrev pub IsMisused : List Site → List External → ℕ → Type 0
IsMisused sites ports k = (0 < k) × (k ≤ length ports) × HasEnd sites k (not (port_is_passive ports k))
