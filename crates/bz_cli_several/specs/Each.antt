-- Traces that are each checked by themselves. A trace has a name, and is a text where that is known.
use Rattle.std.specs.Prelude.{◌≡◌, ◌⊎◌, ⊤, ℕ, Bool, false, List, [], ◌∷◌, ◌++◌, length, Option, Result, Ok, Err}
use Rattle.std.specs.Io.KnownBytes.{Appends, Keeps}
use Rattle.bz_cli_input.specs.Stopping.{AppendsSome}
use Rattle.bz_cli_input.specs.declared.fault.Fault.{Fault}
use Rattle.bz_cli_trace.specs.Telling.{SaysVerdict}
use Rattle.bz_cli_trace.specs.declared.judged.Judged.{Judged}
use Rattle.bz_cli_several.specs.Fates.{fate_of, front_text, status_of, tally_of, tally_text, unread_text}
use Rattle.bz_cli_several.specs.Holding.{Asked, IsCause, IsJudgedOf}
use Rattle.bz_cli_several.specs.declared.judging.Fate.{Fate}
use Rattle.bz_cli_several.specs.declared.judging.Fate.TheVariants.{Unread}

-- its line: the verdict, where it could be read
abbrev pub TellsOne : Asked → Option (List ℕ) → List ℕ → Fate → List ℕ → Type 0
TellsOne asked text name Unread line = line ≡ unread_text name
TellsOne asked text name fate line = (judged : Judged) × IsJudgedOf asked text judged × (fate ≡ fate_of judged.found) × SaysVerdict (front_text name) judged.found line

-- The line went out, where lines are asked for; or one of these causes came, and a front of it did at most.
abbrev pub ChecksOne : Asked → Option (List ℕ) → List ℕ → Bool → Option (List ℕ) → Option (List ℕ) → Result Fate Fault → Type 0
ChecksOne asked text name json old new (Ok fate) = (line : List ℕ) × TellsOne asked text name fate line × (json ≡ false → Appends old new line)
ChecksOne asked text name json old new (Err fault) =
    IsCause asked fault × (json ≡ false → Keeps old new ⊎ ((fate : Fate) × (line : List ℕ) × TellsOne asked text name fate line × AppendsSome old new line))

-- what is told where a trace can't be read, or can't be told so
abbrev pub IsUnread : Result ⊤ Fault → Result Fate Fault → Type 0
IsUnread (Ok u) result = result ≡ Ok Unread
IsUnread (Err fault) result = result ≡ Err fault

-- a line for each, in the order of the names
abbrev pub TellsEach : Asked → (List ℕ → Option (List ℕ)) → List (List ℕ) → List Fate → List ℕ → Type 0
TellsEach asked texts [] [] lines = lines ≡ []
TellsEach asked texts (name ∷ names) (fate ∷ fates) lines =
    (line rest : List ℕ) × TellsOne asked (texts name) name fate line × TellsEach asked texts names fates rest × (lines ≡ line ++ rest)
TellsEach asked texts names fates lines = ⊥

-- how many passed stands behind all of them
abbrev pub ending : List (List ℕ) → List Fate → List ℕ
ending [] fates = tally_text (length fates) (tally_of fates)
ending (name ∷ rest) fates = []

-- A front went out of what is told of the first traces.
pub record StopsAmong (asked : Asked) (texts : List ℕ → Option (List ℕ)) (names : List (List ℕ)) (old new : Option (List ℕ)) : Type 0 where
  pub front : List (List ℕ)
  pub rest : List (List ℕ)
  pub names_are : names ≡ front ++ rest
  pub fates : List Fate
  pub lines : List ℕ
  pub each : TellsEach asked texts front fates lines
  pub sent : AppendsSome old new (lines ++ ending rest fates)

-- The lines went out, where lines are asked for, and the status is the gravest.
abbrev pub ChecksEach : Asked → (List ℕ → Option (List ℕ)) → List (List ℕ) → Bool → Option (List ℕ) → Option (List ℕ) → Result ℕ Fault → Type 0
ChecksEach asked texts names json old new (Ok status) =
    (fates : List Fate) × (lines : List ℕ) × TellsEach asked texts names fates lines × (status ≡ status_of fates)
    × (json ≡ false → Appends old new (lines ++ ending [] fates))
ChecksEach asked texts names json old new (Err fault) = IsCause asked fault × (json ≡ false → StopsAmong asked texts names old new)
