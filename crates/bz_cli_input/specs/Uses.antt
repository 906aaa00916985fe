-- Which parts of a netlist have instances.
use Rattle.std.specs.Prelude.{ℕ, ◌==◌, ◌&&◌, Bool, false, not, List, None, Some}
use Rattle.std.specs.List.{enumerate_from, list_any}
use Rattle.bz_breeze_records.specs.declared.part.Part.{Part}
use Rattle.bz_breeze_records.specs.declared.part.Component.{Component}
use Rattle.bz_breeze_records.specs.Parts.{number_named}

-- a component is an instance of part n, counted from 0
abbrev pub is_instance_of : List Part → ℕ → Component → Bool
is_instance_of listed n c = elim (number_named listed c.name.items) [ None ↦ false | Some k ↦ k == n ]

-- a part has an instance of part n
abbrev pub has_instance_of : List Part → ℕ → Part → Bool
has_instance_of listed n part = list_any (is_instance_of listed n) part.components.items

-- a part, by its number, is another one than part n and has an instance of it
abbrev pub uses_other : List Part → ℕ → ℕ × Part → Bool
uses_other listed n user = not (user.0 == n) && has_instance_of listed n user.1

-- some part is
abbrev pub is_used_by_other : List Part → ℕ → Bool
is_used_by_other listed n = list_any (uses_other listed n) (enumerate_from 0 listed)
