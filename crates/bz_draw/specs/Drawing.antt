-- What the command `draw` reads and writes.
use Rattle.std.specs.Prelude.{◌≡◌, ℕ, List, [], ◌++◌, codes, Option, None, Some, Result}
use Rattle.bz_model.specs.Nets.{Wiring}
use Rattle.bz_cli_input.specs.declared.fault.Fault.{Fault}
use Rattle.bz_cli_input.specs.declared.fault.Fault.TheVariants.{Write}
use Rattle.bz_cli_input.specs.Answering.{Answers, AnswersInput}
use Rattle.bz_cli_input.specs.Opening.{Denotes, RefusesNet}
use Rattle.bz_cli_input.specs.Stopping.{IsOfInput}

-- the text denotes a net
abbrev pub HasNet : List ℕ → Option (List ℕ) → Type 0
HasNet text asked = (w : Wiring) × Denotes text asked w

-- a graph goes on to the line that closes it
abbrev pub IsWhole : List ℕ → Type 0
IsWhole graph = (front : List ℕ) × (graph ≡ front ++ codes "}\n")

-- A graph; where it is answered why there is no such drawing, nothing.
abbrev pub IsDrawn : {N : Type 0} → Option N → List ℕ → Type 0
IsDrawn None graph = IsWhole graph
IsDrawn (Some why) graph = graph ≡ []

-- The netlist is refused, or memory was; or a graph of the net that it denotes goes out.
abbrev pub DrawsText : {N : Type 0} → List ℕ → Option (List ℕ) → Option (List ℕ) → Option (List ℕ) → Result (Option N) Fault → Type 0
DrawsText text asked old new answer = Answers Write (λ why graph. HasNet text asked × IsDrawn why graph) (RefusesNet text asked) old new answer

-- The command `draw`.
abbrev pub Draws : {N : Type 0} → List ℕ → Option (List ℕ) → Option (List ℕ) → Option (List ℕ) → Result (Option N) Fault → Type 0
Draws text asked old new answer = AnswersInput IsOfInput (λ netlist. DrawsText netlist asked old new answer) text old new answer
