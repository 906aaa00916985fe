-- What the ports of all components lead to, in one row.
use Rattle.std.specs.Prelude.{◌≡◌, ◌==◌, ◌&&◌, ℕ, suc, ◌+◌, ◌-◌, ◌<◌, Bool, not, false, true, Option, Some, None, if◌then◌else◌, List, [], ◌∷◌, length, slice_index, slice_index_or}
use Rattle.bz_flat.specs.declared.flat.Ends.{Ends}
use Rattle.bz_flat.specs.Wires.{at_side, ends_in, port_of_side}
use Rattle.bz_model.specs.Nets.{Site, IsPort, chan_at, passive_at}
use Rattle.bz_net.specs.declared.link_row.Link.{Link}

-- port p of component c leads to its channel, and to what stands at the end of it that is not its own
pub record IsLink (sites : List Site) (ends : List Ends) (c p : ℕ) (link : Link) : Type 0 where
  pub on : link.chan ≡ chan_at sites c p
  pub far : link.far ≡ at_side (ends_in ends (chan_at sites c p)) (not (passive_at sites c p))
  pub far_port : link.far_port ≡ port_of_side (ends_in ends (chan_at sites c p)) (not (passive_at sites c p))

abbrev pub no_link : Link
no_link = record { chan = 0; far = None; far_port = 0 }

-- what port p of component c leads to stands in the row, p places after the one before those of c
pub record StandsInRow (sites : List Site) (ends : List Ends) (starts : List ℕ) (row : List Link) (c p : ℕ) : Type 0 where
  pub begins : c - 1 < length starts
  pub within : slice_index starts (c - 1) + p < length row
  pub is_link : IsLink sites ends c p (slice_index_or row (slice_index starts (c - 1) + p) no_link)

-- so do those of all ports
abbrev pub InRow : List Site → List Ends → List ℕ → List Link → Type 0
InRow sites ends starts row = (c p : ℕ) → IsPort sites c p → StandsInRow sites ends starts row c p

-- whether component c stands at an end
abbrev pub stands_at : Option ℕ → ℕ → Bool
stands_at None c = false
stands_at (Some d) c = d == c

-- channel k, with what stands at this side of it
abbrev pub link_to : ℕ → Ends → Bool → Link
link_to k pair side = record { chan = k; far = at_side pair side; far_port = port_of_side pair side }

-- What port p of component c leads to, on channel k, which has these ends: where it is the passive one, to the active one, else to
-- the passive one.
abbrev pub link_of : Ends → ℕ → ℕ → ℕ → Link
link_of pair c p k = if stands_at pair.passive c && pair.passive_port == p then link_to k pair false else link_to k pair true

-- what its ports lead to from port p on, which are on these channels
abbrev pub links_of : List Ends → ℕ → ℕ → List ℕ → List Link
links_of ends c p [] = []
links_of ends c p (k ∷ ks) = link_of (ends_in ends k) c p k ∷ links_of ends c (suc p) ks
