-- Traces that are the pieces of one run. A trace has a name, and is a text where that is known.
use Rattle.std.specs.Prelude.{◌≡◌, ◌≢◌, ◌⊎◌, ⊤, ℕ, ◌+◌, Bool, true, false, ◌&&◌, if◌then◌else◌, List, [], ◌∷◌, ◌++◌, Option, IfSome, Result, Ok, Err, min}
use Rattle.std.specs.Io.KnownBytes.{Appends, Keeps}
use Rattle.bz_model.specs.declared.event.Entry.{Entry}
use Rattle.bz_model.specs.Nets.{Wiring}
use Rattle.bz_net.specs.Progress.{Progress}
use Rattle.bz_trace_text.specs.Counting.{Tells}
use Rattle.bz_trace_text.specs.declared.tally.Counts.{Counts}
use Rattle.bz_trace.specs.Pieces.{IsPiece, StandsSomewhere}
use Rattle.bz_trace.specs.declared.checking.Verdict.TheVariants as verdict
use Rattle.bz_cli_input.specs.Stopping.{AppendsSome}
use Rattle.bz_cli_input.specs.declared.fault.Fault.{Fault}
use Rattle.bz_cli_trace.specs.Joining.{IsPieceFound}
use Rattle.bz_cli_trace.specs.Judging.{is_passed}
use Rattle.bz_cli_trace.specs.Telling.{SaysVerdict}
use Rattle.bz_cli_trace.specs.declared.finding.Finding.{Finding}
use Rattle.bz_cli_several.specs.Fates.{front_text, most, unread_text}
use Rattle.bz_cli_several.specs.Holding.{Asked, IsCause, IsOf}
use Rattle.bz_cli_several.specs.declared.joining.Next.{Next}
use Rattle.bz_cli_several.specs.declared.joining.Next.TheVariants.{Ends, GoesOn}

abbrev pub sum : Counts → Counts → Counts
sum a b = record { fired = min (a.fired + b.fired) most; host = min (a.host + b.host) most; rests = min (a.rests + b.rests) most }

abbrev pub none : Counts
none = record { fired = 0; host = 0; rests = 0 }

-- a piece that is not the last one goes on behind these entries, with so many of its own
pub record GoesFrom (w : Wiring) (past : List Entry) (next : List Entry) (counts : Counts) (text : List ℕ) : Type 0 where
  pub piece : IsPiece false w past text
  pub tells : Tells counts piece.trace.entries
  pub next_is : next ≡ past ++ piece.trace.entries

-- so do the pieces of these names, one after another
abbrev pub FollowsOn : Wiring → (List ℕ → Option (List ℕ)) → List Entry → Counts → List (List ℕ) → List Entry → Counts → Type 0
FollowsOn w texts past counts [] all total = (all ≡ past) × (total ≡ counts)
FollowsOn w texts past counts (name ∷ names) all total =
    (next : List Entry) × (more : Counts) × IfSome (texts name) (GoesFrom w past next more) × FollowsOn w texts next (sum counts more) names all total

-- what was found of a piece behind these entries
abbrev pub IsNextFound : Asked → Wiring → List Entry → Option (List ℕ) → Bool → Progress → Finding → Type 0
IsNextFound asked w past text last net found = IfSome text (λ t. IsPieceFound asked.to_first (asked.to_rest && last) last w past t net found)

-- it is none, and where that stops is told behind its name
abbrev pub TellsStop : Asked → Wiring → List Entry → Option (List ℕ) → List ℕ → Bool → List ℕ → Type 0
TellsStop asked w past text name last line =
    (net : Progress) × (found : Finding) × IsNextFound asked w past text last net found × (found.verdict ≢ verdict.Run) × SaysVerdict (front_text name) found line

-- a piece behind which none is looked at: it can't be read, or is none
abbrev pub EndsAt : Asked → Wiring → List Entry → Option (List ℕ) → List ℕ → Bool → ℕ → List ℕ → Type 0
EndsAt asked w past text name last status line =
    ((status ≡ 2) × (line ≡ unread_text name)) ⊎ ((status ≡ 1) × TellsStop asked w past text name last line)

-- the last piece goes on to the end of the run, and what that has is told
abbrev pub TellsRun : Asked → Wiring → List Entry → Counts → Option (List ℕ) → ℕ → List ℕ → Type 0
TellsRun asked w past total text status line =
    (net : Progress) × (found : Finding) × IsNextFound asked w past text true net found × (found.verdict ≡ verdict.Run)
    × SaysVerdict [] (record found { counts = sum total found.counts }) line × (status ≡ (if is_passed found then 0 else 1))

abbrev pub is_empty : List (List ℕ) → Bool
is_empty [] = true
is_empty (name ∷ names) = false

-- The pieces in front of one go on, one after another, and so it ends at that one.
pub record EndsAmong (asked : Asked) (texts : List ℕ → Option (List ℕ)) (names : List (List ℕ)) (status : ℕ) (line : List ℕ) : Type 0 where
  pub wiring : Wiring
  pub net : IsOf asked wiring
  pub front : List (List ℕ)
  pub name : List ℕ
  pub rest : List (List ℕ)
  pub names_are : names ≡ front ++ name ∷ rest
  pub past : List Entry
  pub total : Counts
  pub follows : FollowsOn wiring texts [] none front past total
  pub ends : EndsAt asked wiring past (texts name) name (is_empty rest) status line ⊎ ((rest ≡ []) × TellsRun asked wiring past total (texts name) status line)

-- one line; without a name none, and the command line is refused
abbrev pub TellsJoined : Asked → (List ℕ → Option (List ℕ)) → List (List ℕ) → ℕ → List ℕ → Type 0
TellsJoined asked texts [] status line = (status ≡ 2) × (line ≡ [])
TellsJoined asked texts names status line = EndsAmong asked texts names status line

-- The line went out, where lines are asked for; or one of these causes came, and a front of it did at most.
abbrev pub TellsLine : Asked → (ℕ → List ℕ → Type 0) → Bool → Option (List ℕ) → Option (List ℕ) → Result ℕ Fault → Type 0
TellsLine asked Says json old new (Ok status) = (line : List ℕ) × Says status line × (json ≡ false → Appends old new line)
TellsLine asked Says json old new (Err fault) =
    IsCause asked fault × (json ≡ false → Keeps old new ⊎ ((status : ℕ) × (line : List ℕ) × Says status line × AppendsSome old new line))

abbrev pub ChecksJoined : Asked → (List ℕ → Option (List ℕ)) → List (List ℕ) → Bool → Option (List ℕ) → Option (List ℕ) → Result ℕ Fault → Type 0
ChecksJoined asked texts names json old new result = TellsLine asked (TellsJoined asked texts names) json old new result

-- a piece goes on, and nothing is told of it; or so it ends there
abbrev pub ChecksNext : Asked → Wiring → List Entry → Option (List ℕ) → List ℕ → Bool → Bool → Option (List ℕ) → Option (List ℕ) → Result Next Fault → Type 0
ChecksNext asked w past text name last json old new (Ok (GoesOn judged)) =
    (judged.found.verdict ≡ verdict.Run) × IsNextFound asked w past text last judged.net judged.found × (judged.net.wiring ≡ w)
    × StandsSomewhere judged.net × (new ≡ old)
ChecksNext asked w past text name last json old new (Ok (Ends status)) = TellsLine asked (EndsAt asked w past text name last) json old new (Ok status)
ChecksNext asked w past text name last json old new (Err fault) = TellsLine asked (EndsAt asked w past text name last) json old new (Err fault)

abbrev pub IsUnreadPiece : Result ⊤ Fault → Result Next Fault → Type 0
IsUnreadPiece (Ok u) result = result ≡ Ok (Ends 2)
IsUnreadPiece (Err fault) result = result ≡ Err fault
