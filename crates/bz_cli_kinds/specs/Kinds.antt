-- What the command `kinds` does: it writes the row of each kind, as lines of words or as JSON.
use Rattle.std.specs.Prelude.{◌≡◌, ℕ, Bool, List, Option, Result}
use Rattle.bz_cli_input.specs.declared.fault.Fault.{Fault}
use Rattle.bz_cli_input.specs.declared.fault.Fault.TheVariants.{Memory, Write}
use Rattle.bz_cli_input.specs.Answering.{Answers}
use Rattle.bz_cli_kinds.specs.Items.{kinds_text}

-- All of it goes out, or there is no memory for it and nothing does.
abbrev pub TellsKinds : {E : Type 0} → Bool → Option (List ℕ) → Option (List ℕ) → Result E Fault → Type 0
TellsKinds is_json old new answer = Answers Write (λ u text. text ≡ kinds_text is_json) (λ fault. fault ≡ Memory) old new answer
