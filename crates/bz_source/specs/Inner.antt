-- What is read of each part before the walk.
use Rattle.std.specs.Prelude.{◌≡◌, ℕ, ◌≤◌, Bool, true, false, Option, None, Some, List, [], length, map, slice_index_or}
use Rattle.std.specs.List.{All}
use Rattle.std.specs.declared.alloc.Global.{Global}
use Rattle.std.specs.declared.vec.Vec.{Vec}
use Rattle.bz_breeze_records.specs.declared.part.Part.{Part}
use Rattle.bz_elab.specs.Numbers.{number_named}
use Rattle.bz_source.specs.Found.{found_in}

-- for each component the part that it is an instance of
abbrev pub inner_of : List Part → Part → List (Option ℕ)
inner_of parts part = map (λ c. number_named parts c.name.items) part.components.items

abbrev pub AreInner : List Part → List (Vec (Option ℕ) Global) → Type 0
AreInner parts tables = map (λ v. v.items) tables ≡ map (inner_of parts) parts

-- in a copy of part n nothing is found
abbrev pub IsBare : List Part → ℕ → Type 0
IsBare parts n = (depth : ℕ) (path : List ℕ) → found_in parts depth path n ≡ []

-- as many marks as parts, and each that is marked is bare
pub record AreBare (parts : List Part) (marks : List Bool) : Type 0 where
  pub len : length marks ≡ length parts
  pub are : (n : ℕ) → slice_index_or marks n false ≡ true → IsBare parts n

abbrev pub is_marked : List Bool → Option ℕ → Bool
is_marked marks None = false
is_marked marks (Some n) = slice_index_or marks n false

-- a part has no channel but its ports, and all its components are instances of parts with a mark
pub record BringsNothing (part : Part) (inner : List (Option ℕ)) (marks : List Bool) : Type 0 where
  pub ports : length part.channels.items ≤ length part.ports.items
  pub marked : All (λ o. is_marked marks o ≡ true) inner
