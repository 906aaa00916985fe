-- Where a trace begins in a text that has a netlist before it.
use Rattle.std.specs.Prelude.{◌≡◌, ◌⊎◌, ⊤, ℕ, suc, ◌<◌, ◌≤◌, List, [], ◌∷◌, ◌++◌, length, take, drop, codes, slice_index}
use Rattle.bz_trace_text.specs.declared.text.Version.{Version}
use Rattle.bz_trace_text.specs.declared.text.Version.TheVariants.{One, Two}

abbrev pub version_words : Version → List ℕ
version_words One = codes "trace 1"
version_words Two = codes "trace 2"

-- a line ends here, or the text does
abbrev pub EndsLine : List ℕ → Type 0
EndsLine [] = ⊤
EndsLine (b ∷ later) = b ≡ 10

-- a line of exactly these words stands at the front
abbrev pub BeginsWith : List ℕ → List ℕ → Type 0
BeginsWith words text = (rest : List ℕ) × (text ≡ words ++ rest) × EndsLine rest

-- a line that is exactly the first one of a trace stands at the front
abbrev pub BeginsTrace : List ℕ → Type 0
BeginsTrace text = (version : Version) × BeginsWith (version_words version) text

-- at this place, counted from 0, a line begins
abbrev pub BeginsLine : List ℕ → ℕ → Type 0
BeginsLine text place = (place ≡ 0) ⊎ ((before : ℕ) × (place ≡ suc before) × (slice_index text before ≡ 10))

abbrev pub IsTraceAt : List ℕ → ℕ → Type 0
IsTraceAt text place = (place < length text) × BeginsLine text place × BeginsTrace (drop place text)

-- the text up to the first line that is exactly that of a trace, and from there on; without such a line the trace is empty
pub record Splits (text netlist trace : List ℕ) : Type 0 where
  pub place : ℕ
  pub netlist_is : netlist ≡ take place text
  pub trace_is : trace ≡ drop place text
  pub here : IsTraceAt text place ⊎ (place ≡ length text)
  pub first : (other : ℕ) → IsTraceAt text other → place ≤ other
