-- How a command stops before its end: for a cause, at its input, or where the writer fails.
use Rattle.std.specs.Prelude.{◌≡◌, ℕ, ⊤, List, ◌++◌, Option, Result, IsErrAnd}
use Rattle.std.specs.Io.KnownBytes.{Appends, Keeps}
use Rattle.bz_cli_input.specs.declared.fault.Fault.{Fault}
use Rattle.bz_cli_input.specs.declared.fault.Fault.TheVariants.{Read, Memory}

-- a front of the text went out, or all of it
abbrev pub AppendsSome : Option (List ℕ) → Option (List ℕ) → List ℕ → Type 0
AppendsSome old new text = (front rest : List ℕ) × (text ≡ front ++ rest) × Appends old new front

-- It failed for one of these causes, and nothing went out.
abbrev pub StopsFor : {A F : Type 0} → (F → Type 0) → Option (List ℕ) → Option (List ℕ) → Result A F → Type 0
StopsFor Causes old new answer = IsErrAnd answer (λ fault. Causes fault × Keeps old new)

abbrev pub IsOfInput : Fault → Type 0
IsOfInput Read = ⊤
IsOfInput Memory = ⊤
IsOfInput fault = ⊥

-- The reader failed or gave more than the limit, or there was no memory for what it gave; and nothing went out.
abbrev pub StopsAtInput : {E : Type 0} → Option (List ℕ) → Option (List ℕ) → Result E Fault → Type 0
StopsAtInput old new answer = StopsFor IsOfInput old new answer
