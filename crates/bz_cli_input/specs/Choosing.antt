-- Which part of a netlist is opened.
use Rattle.std.specs.Prelude.{◌≡◌, ◌≢◌, ℕ, ⊤, not, List, [], ◌∷◌, length, map, Option, None, Some}
use Rattle.std.specs.List.{enumerate_from, filter}
use Rattle.bz_breeze_records.specs.declared.part.Part.{Part}
use Rattle.bz_cli_input.specs.Uses.{is_used_by_other}
use Rattle.bz_cli_input.specs.declared.fault.Fault.{Fault}
use Rattle.bz_cli_input.specs.declared.fault.Fault.TheVariants as fault

-- the names of the parts that no other part has an instance of, in the order of the text
abbrev pub tops : List Part → List (List ℕ)
tops listed = map (λ part. part.1.name.items) (filter (λ part. not (is_used_by_other listed part.0)) (enumerate_from 0 listed))

-- The part of this name is opened: it is asked for by its name; or none is, and no other part uses this one alone.
abbrev pub Chooses : List Part → Option (List ℕ) → List ℕ → Type 0
Chooses listed (Some asked) name = name ≡ asked
Chooses listed None name = tops listed ≡ name ∷ []

-- Why no part is opened: none is asked for by its name, and these are the parts that no other uses, not just one.
abbrev pub RefusesChoice : List Part → Option (List ℕ) → Fault → Type 0
RefusesChoice listed asked (fault.Top names) = (asked ≡ None) × (map (λ name. name.items) names.items ≡ tops listed) × (length (tops listed) ≢ 1)
RefusesChoice listed asked fault.Memory = ⊤
RefusesChoice listed asked fault = ⊥
