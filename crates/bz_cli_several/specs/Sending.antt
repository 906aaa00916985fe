-- A text that is sent, and why something is not told.
use Rattle.std.specs.Prelude.{◌≡◌, ⊤, ℕ, List, Option, Result, Ok, Err}
use Rattle.std.specs.Io.KnownBytes.{Appends}
use Rattle.bz_cli_input.specs.Stopping.{AppendsSome}
use Rattle.bz_cli_input.specs.declared.fault.Fault.{Fault}
use Rattle.bz_cli_input.specs.declared.fault.Fault.TheVariants.{Memory, Write}

-- all of it went out, or the writer failed behind a front of it
abbrev pub SendsText : {A : Type 0} → List ℕ → Option (List ℕ) → Option (List ℕ) → Result A Fault → Type 0
SendsText text old new (Ok u) = Appends old new text
SendsText text old new (Err fault) = (fault ≡ Write) × AppendsSome old new text

-- memory was refused, or the writer failed
abbrev pub IsLate : Fault → Type 0
IsLate Memory = ⊤
IsLate Write = ⊤
IsLate fault = ⊥
