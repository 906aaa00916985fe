-- What the command `list` reads and writes.
use Rattle.std.specs.Prelude.{◌≡◌, ℕ, List, Option, Result}
use Rattle.bz_model.specs.Nets.{Wiring}
use Rattle.bz_cli_input.specs.declared.fault.Fault.{Fault}
use Rattle.bz_cli_input.specs.declared.fault.Fault.TheVariants.{Write}
use Rattle.bz_cli_input.specs.Answering.{Answers, AnswersInput}
use Rattle.bz_cli_input.specs.Listing.{list_text}
use Rattle.bz_cli_input.specs.Opening.{Denotes, RefusesNet}
use Rattle.bz_cli_input.specs.Stopping.{IsOfInput}

-- the list of the net that a text denotes, under the name of its part
abbrev pub IsList : List ℕ → Option (List ℕ) → List ℕ → Type 0
IsList text asked list = (w : Wiring) × (d : Denotes text asked w) × (list ≡ list_text d.name w)

-- The netlist is refused, or its list goes out.
abbrev pub ListsText : {E : Type 0} → List ℕ → Option (List ℕ) → Option (List ℕ) → Option (List ℕ) → Result E Fault → Type 0
ListsText text asked old new answer = Answers Write (λ u list. IsList text asked list) (RefusesNet text asked) old new answer

-- The command `list`.
abbrev pub Lists : {E : Type 0} → List ℕ → Option (List ℕ) → Option (List ℕ) → Option (List ℕ) → Result E Fault → Type 0
Lists text asked old new answer = AnswersInput IsOfInput (λ netlist. ListsText netlist asked old new answer) text old new answer
