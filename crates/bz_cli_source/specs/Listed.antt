-- What the command `list --paths` reads and writes.
use Rattle.std.specs.Prelude.{◌≡◌, ℕ, List, Option, Result}
use Rattle.bz_cli_input.specs.declared.fault.Fault.{Fault}
use Rattle.bz_cli_input.specs.declared.fault.Fault.TheVariants.{Write}
use Rattle.bz_cli_input.specs.Answering.{Answers, AnswersInput}
use Rattle.bz_cli_input.specs.Opening.{RefusesNet}
use Rattle.bz_cli_input.specs.Stopping.{IsOfInput}
use Rattle.bz_flat.specs.declared.flat.Pieces.{Pieces}
use Rattle.bz_source.specs.declared.survey.Survey.{Survey}
use Rattle.bz_cli_source.specs.Surveys.{IsPlaced}
use Rattle.bz_cli_source.specs.Listing.{paths_text}

-- the list of the net that a text denotes, with the place of everything in it, under the name of its part
abbrev pub IsPathList : List ℕ → Option (List ℕ) → List ℕ → Type 0
IsPathList text asked list = (name : List ℕ) × (net : Pieces) × (s : Survey) × IsPlaced text asked name net s × (list ≡ paths_text net s name)

-- The netlist is refused, or that list goes out.
abbrev pub ListsPaths : {E : Type 0} → List ℕ → Option (List ℕ) → Option (List ℕ) → Option (List ℕ) → Result E Fault → Type 0
ListsPaths text asked old new answer = Answers Write (λ u list. IsPathList text asked list) (RefusesNet text asked) old new answer

-- The command.
abbrev pub Lists : {E : Type 0} → List ℕ → Option (List ℕ) → Option (List ℕ) → Option (List ℕ) → Result E Fault → Type 0
Lists text asked old new answer = AnswersInput IsOfInput (λ netlist. ListsPaths netlist asked old new answer) text old new answer
