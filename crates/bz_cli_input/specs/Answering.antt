-- What a command answers: by the texts that may go out, and the causes why none does.
use Rattle.std.specs.Prelude.{◌≡◌, ◌⊎◌, ◌≤◌, ℕ, List, length, Option, Result, Ok, Err}
use Rattle.std.specs.Io.KnownBytes.{Appends}
use Rattle.bz_cli_input.specs.Limits.{input_limit}
use Rattle.bz_cli_input.specs.Stopping.{AppendsSome, StopsFor}

-- One of the texts that may go out with what is answered did; or the writer failed, for which `write` is answered, and a front of
-- such a text went out.
abbrev pub SendsOne : {A F : Type 0} → F → (A → List ℕ → Type 0) → Option (List ℕ) → Option (List ℕ) → Result A F → Type 0
SendsOne {A = A} write Texts old new (Ok a) = (text : List ℕ) × Texts a text × Appends old new text
SendsOne {A = A} write Texts old new (Err fault) = (fault ≡ write) × ((a : A) × (text : List ℕ) × Texts a text × AppendsSome old new text)

-- There is one of these causes, and nothing went out; or one of these texts did.
abbrev pub Answers : {A F : Type 0} → F → (A → List ℕ → Type 0) → (F → Type 0) → Option (List ℕ) → Option (List ℕ) → Result A F → Type 0
Answers write Texts Causes old new answer = StopsFor Causes old new answer ⊎ SendsOne write Texts old new answer

-- The input is not taken, and nothing went out; or it is within the limit, and `Does` of it.
abbrev pub AnswersInput : {A F : Type 0} → (F → Type 0) → (List ℕ → Type 0) → List ℕ → Option (List ℕ) → Option (List ℕ) → Result A F → Type 0
AnswersInput IsOfInput Does text old new answer = StopsFor IsOfInput old new answer ⊎ ((length text ≤ input_limit) × Does text)
