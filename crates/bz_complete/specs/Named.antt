-- What the channels of a net are called, and what a name means.
use Rattle.std.specs.Prelude.{◌≡◌, ◌≢◌, ◌⊎◌, ℕ, zero, suc, Option, Some, List, [], ◌∷◌, length, map, unwrap_or, option_and_then}
use Rattle.std.specs.Option.{option_map}
use Rattle.bz_model.specs.Names.{External, numbered}
use Rattle.bz_model.specs.Nets.{Wiring}
use Rattle.bz_model.specs.Traces.{name_form}
use Rattle.bz_source.specs.Views.{name_label}
use Rattle.bz_source.specs.declared.survey.Survey.{Survey}
use Rattle.bz_cli_source.specs.Surveys.{IsSurvey}

-- The names of a net in name form: of each port, in order, and of each channel what the text calls it, which may be nothing.
pub record ChanTable : Type 0 where
  pub ports : List (List ℕ)
  pub labels : List (List ℕ)

abbrev pub no_names : ChanTable
no_names = record { ports = []; labels = [] }

-- channel k alone is called so
abbrev pub IsAlone : List (List ℕ) → List ℕ → ℕ → Type 0
IsAlone labels word k = (numbered labels k ≡ Some word) × ((j : ℕ) → numbered labels j ≡ Some word → j ≡ k)

-- A name means the port that has it; where no port has it, the one channel that the text calls so.
abbrev pub IsNamed : ChanTable → List ℕ → ℕ → Type 0
IsNamed names word k =
    (word ≢ []) × ((numbered names.ports k ≡ Some word) ⊎ (((j : ℕ) → numbered names.ports j ≡ Some word → ⊥) × IsAlone names.labels word k))

-- what the text calls channel k, in name form, or nothing
abbrev pub label : Survey → ℕ → List ℕ
label s k = unwrap_or (option_map name_form (option_and_then (name_label s.lines.items) (numbered s.places.chans k))) []

-- n channels from channel k on
abbrev pub labels_from : Survey → ℕ → ℕ → List (List ℕ)
labels_from s k zero = []
labels_from s k (suc n) = label s k ∷ labels_from s (suc k) n

abbrev pub port_form : External → List ℕ
port_form p = name_form p.name

-- the names of this net, of which this is found in its text
abbrev pub table_of : Wiring → Survey → ChanTable
table_of w s = record { ports = map port_form w.ports; labels = labels_from s 1 (length w.chans) }

-- The names of the net that a part of the text denotes; or none, which leaves numbers alone.
abbrev pub AreNames : List ℕ → Option (List ℕ) → Wiring → ChanTable → Type 0
AreNames netlist part w names =
    (names ≡ no_names) ⊎ ((name : List ℕ) × (s : Survey) × IsSurvey netlist part name w s × (names ≡ table_of w s))
