-- How the program ends, by what its command answers.
use Rattle.std.proofs.Common.{◌≡◌, ℕ, Option, None, Some, Result, List}
use Rattle.std.specs.Prelude.{IfSome, ⊤}
use Rattle.bz_cli_input.specs.declared.fault.Fault.{Fault}
use Rattle.bz_cli_commands.specs.Endings.{Does, IsDone, of_done}

-- what is said of the answer of a command that answers nothing else
pub is_done : (known : Option (List ℕ)) (Says : List ℕ → Result ⊤ Fault → Type 0) (answer : Result ⊤ Fault) (result : Result ℕ Fault) → IfSome known (λ text. Says text answer) → result ≡ of_done answer → IfSome known (λ text. IsDone (Says text) result)
is_done None Says answer result says is = tt
is_done (Some text) Says answer result says is = (answer, says, is)

-- what is said of the answer of any command
pub does : {A : Type 0} (ending : A → Result ℕ Fault) (known : Option (List ℕ)) (Says : List ℕ → A → Type 0) (answer : A) (result : Result ℕ Fault) → IfSome known (λ text. Says text answer) → result ≡ ending answer → IfSome known (λ text. Does ending (Says text) result)
does ending None Says answer result says is = tt
does ending (Some text) Says answer result says is = (answer, says, is)

-- the same of two readers
pub does_apart : {A : Type 0} (ending : A → Result ℕ Fault) (known had : Option (List ℕ)) (Says : List ℕ → List ℕ → A → Type 0) (answer : A) (result : Result ℕ Fault) → IfSome known (λ netlist. IfSome had (λ text. Says netlist text answer)) → result ≡ ending answer
    → IfSome known (λ netlist. IfSome had (λ text. Does ending (Says netlist text) result))
does_apart ending None had Says answer result says is = tt
does_apart ending (Some netlist) None Says answer result says is = tt
does_apart ending (Some netlist) (Some text) Says answer result says is = (answer, says, is)

-- what is said with one of these is said with some
pub with_some : {B : Type 0} (known : Option (List ℕ)) (Says : B → List ℕ → Type 0) (b : B) → IfSome known (λ text. Says b text) → IfSome known (λ text. (c : B) × Says c text)
with_some None Says b says = tt
with_some (Some text) Says b says = (b, says)

pub with_some_apart : {B : Type 0} (known had : Option (List ℕ)) (Says : B → List ℕ → List ℕ → Type 0) (b : B) → IfSome known (λ netlist. IfSome had (λ text. Says b netlist text)) → IfSome known (λ netlist. IfSome had (λ text. (c : B) × Says c netlist text))
with_some_apart None had Says b says = tt
with_some_apart (Some netlist) None Says b says = tt
with_some_apart (Some netlist) (Some text) Says b says = (b, says)
