-- What a printer leaves in a writer.
use Rattle.std.specs.Prelude.{◌≡◌, ℕ, Bool, true, false, List, ◌++◌, Option, Result, Ok, Err}
use Rattle.std.specs.Io.KnownBytes.{Appends, Keeps}
use Rattle.bz_text.specs.Writing.{AppendsFront, Writes}
use Rattle.bz_trace_text.specs.declared.printer.Printer.{Printer}

-- A text was printed after what waited, `before`: some of both went out, and the rest waits, `after`. Where the writer failed, a
-- front of both went out; where it had failed before, nothing did.
abbrev pub PrintsFrom : Option (List ℕ) → Bool → List ℕ → Option (List ℕ) → Bool → List ℕ → List ℕ → Type 0
PrintsFrom old false before new false after text = (sent : List ℕ) × (before ++ text ≡ sent ++ after) × Appends old new sent
PrintsFrom old false before new true after text = AppendsFront old new (before ++ text)
PrintsFrom old true before new true after text = Keeps old new
PrintsFrom old true before new false after text = ⊥

abbrev pub Prints : Option (List ℕ) → Printer → Option (List ℕ) → Printer → List ℕ → Type 0
Prints old printer new after text = PrintsFrom old printer.failed printer.page new after.failed after.page text

-- What waited went out, or a front of it at Err; where the writer had failed before, nothing did.
abbrev pub EndsFrom : {A E : Type 0} → Option (List ℕ) → Bool → List ℕ → Option (List ℕ) → Result A E → Type 0
EndsFrom old false waits new answer = Writes old new answer waits
EndsFrom old true waits new (Ok u) = ⊥
EndsFrom old true waits new (Err e) = Keeps old new

abbrev pub Ends : {A E : Type 0} → Option (List ℕ) → Printer → Option (List ℕ) → Result A E → Type 0
Ends old printer new answer = EndsFrom old printer.failed printer.page new answer
