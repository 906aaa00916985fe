-- The parts of a netlist: what holds of each, and which one has a name.
use Rattle.std.specs.Prelude.{ℕ, Bool, false, ◌==◌, ◌≤◌, length, map, find, position, List, [], ◌∷◌, Option, bytes_eq}
use Rattle.std.specs.List.{AllByRecursion}
use Rattle.bz_model.specs.Names.{NamesDiffer, external}
use Rattle.bz_model.specs.Limits.{max_width}
use Rattle.bz_breeze_records.specs.declared.part.Part.{Part}

-- each port of a part has its channel
abbrev pub HasPortChannels : Part → Type 0
HasPortChannels p = length p.ports.items ≤ length p.channels.items

-- no two ports of a part have one name, and no channel is wider than the greatest width
pub record IsFit (p : Part) : Type 0 where
  pub names_differ : NamesDiffer (map external p.ports.items)
  pub narrow : AllByRecursion (λ c. c.width ≤ max_width) p.channels.items

-- a name begins with a dollar sign
abbrev pub has_dollar : List ℕ → Bool
has_dollar [] = false
has_dollar (b ∷ name) = b == 36

-- the number of the part of a name, counted from 0
abbrev pub number_named : List Part → List ℕ → Option ℕ
number_named list name = position (λ p. bytes_eq name p.name.items) list

-- the part of a name
abbrev pub part_named : List Part → List ℕ → Option Part
part_named list name = find (λ p. bytes_eq name p.name.items) list
