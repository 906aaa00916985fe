-- A trace that comes in pieces.
use Rattle.std.specs.Prelude.{◌≡◌, ◌⊎◌, ℕ, ◌-◌, ◌<◌, ◌≤◌, ◌==◌, Bool, true, false, List, [], ◌++◌, length, take, Option}
use Rattle.std.specs.List.{AllByRecursion}
use Rattle.bz_model.specs.declared.event.Entry.{Entry}
use Rattle.bz_model.specs.Entries.{HasLine}
use Rattle.bz_model.specs.Limits.{max_entries}
use Rattle.bz_model.specs.Nets.{Wiring, outside}
use Rattle.bz_model.specs.Traces.{clash_text}
use Rattle.std.specs.Io.KnownBytes.{Consumes, IsAtEnd}
use Rattle.std.specs.List.{list_any}
use Rattle.bz_net.specs.Progress.{Progress}
use Rattle.bz_trace_text.specs.Texts.{NoClash, first_line, lines}
use Rattle.bz_trace_text.specs.declared.tally.Counts.{Counts}
use Rattle.bz_trace_text.specs.declared.text.Version.{Version}
use Rattle.bz_trace_text.specs.declared.text.Version.TheVariants.{Two}
use Rattle.bz_trace.specs.Pieces.{ConcludesPiece, LeavesPieceEarly, StopsInFrontBehind}
use Rattle.bz_trace.specs.Verdicts.{Concludes, IsAfter, Judges, Leaves, StopsAtEntry}
use Rattle.bz_trace.specs.declared.checking.Verdict.{Verdict}
use Rattle.bz_trace.specs.declared.checking.Verdict.TheVariants as verdict
use Rattle.bz_trace.specs.declared.reading.Said.{Said}

-- a line ends in the text
abbrev pub HasEnd : List ℕ → Type 0
HasEnd text = list_any (λ b. b == 10) text ≡ true

-- A whole line stands at the front, and it is no clash line, whatever stands behind it.
abbrev pub IsOther : Version → List ℕ → Type 0
IsOther version text = HasEnd text × ((more : List ℕ) → NoClash version (text ++ more))

-- a line of a clash stands at the front
abbrev pub BeginsWithClash : List ℕ → Type 0
BeginsWithClash text = (comp : ℕ) × (after : List ℕ) × (text ≡ clash_text comp ++ after)

-- No line ends here, or a line of a clash stands at the front of a trace of version 2: what it is hangs on what comes.
abbrev pub AwaitsMore : Version → List ℕ → Type 0
AwaitsMore version text = (HasEnd text → ⊥) ⊎ ((version ≡ Two) × BeginsWithClash text)

-- Behind the first line and some lines of entries stands more than 67,108,864 bytes of a line that doesn't end in them, or of
-- lines that begin with one of a clash.
pub record IsTooLong (w : Wiring) (text : List ℕ) : Type 0 where
  pub version : Version
  pub entries : List Entry
  pub held : List ℕ
  pub more : List ℕ
  pub text_is : text ≡ first_line version ++ (lines w.ports entries ++ (held ++ more))
  pub long : 67108864 < length held
  pub awaits : AwaitsMore version held

-- More came behind what was held, up to so many bytes or to the end, or nothing did at the end.
abbrev pub Comes : Option (List ℕ) → Bool → List ℕ → List ℕ → ℕ → Type 0
Comes new true piece later goal = (0 < length piece) × ((goal ≤ length later) ⊎ IsAtEnd new)
Comes new false piece later goal = (piece ≡ []) × IsAtEnd new

abbrev pub ReadsMore : Option (List ℕ) → Option (List ℕ) → List ℕ → List ℕ → ℕ → Bool → Type 0
ReadsMore old new held later goal came = (piece : List ℕ) × Consumes old new piece × (later ≡ held ++ piece) × Comes new came piece later goal

-- In front of the text stand the first line and lines of entries, of which `line` is the first that no run allows. Of what comes
-- after these lines nothing is said.
pub record StopsInFront (w : Wiring) (text : List ℕ) (line : ℕ) : Type 0 where
  pub version : Version
  pub entries : List Entry
  pub each : AllByRecursion (HasLine (outside w)) entries
  pub few : length entries ≤ max_entries
  pub more : List ℕ
  pub text_is : text ≡ first_line version ++ (lines w.ports entries ++ more)
  pub stops : StopsAtEntry w entries line

-- a verdict on the whole of a text; or an early one, on the first line that no run allows
abbrev pub JudgesTo : Bool → Wiring → List ℕ → Verdict → Type 0
JudgesTo false w text v = Judges w text v
JudgesTo true w text (verdict.Not line) = StopsInFront w text line
JudgesTo true w text v = ⊥

-- where the net is left: after an early verdict in front of that line
abbrev pub LeavesTo : Bool → Wiring → List ℕ → Progress → Verdict → Type 0
LeavesTo false w text net v = Leaves w text net v
LeavesTo true w text net (verdict.Not line) = (stops : StopsInFront w text line) × IsAfter net (take (line - 2) stops.entries)
LeavesTo true w text net v = ⊥

abbrev pub ConcludesAs : Bool → Wiring → List ℕ → Progress → Counts → Verdict → Type 0
ConcludesAs false w text net counts v = Concludes w text net counts v
ConcludesAs true w text net counts v = LeavesTo true w text net v

-- it is said early that this line is the first that no run allows
abbrev pub IsEarly : ℕ → Said → Type 0
IsEarly line said = (said.early ≡ true) × (said.verdict ≡ verdict.Not line)

-- What is said of a text, of the whole or to the first line that no run allows, and where the net is left.
pub record ConcludesTo (to_first : Bool) (w : Wiring) (text : List ℕ) (net : Progress) (said : Said) : Type 0 where
  pub concludes : ConcludesAs said.early w text net said.counts said.verdict
  pub first : to_first ≡ true → (line : ℕ) → StopsInFront w text line → IsEarly line said

-- The same of a piece of a run.
abbrev pub ConcludesPieceAs : Bool → Bool → Wiring → List Entry → List ℕ → Progress → Counts → Verdict → Type 0
ConcludesPieceAs false last w past text net counts v = ConcludesPiece last w past text net counts v
ConcludesPieceAs true last w past text net counts v = LeavesPieceEarly w past text net v

pub record ConcludesPieceTo (to_first last : Bool) (w : Wiring) (past : List Entry) (text : List ℕ) (net : Progress) (said : Said) : Type 0 where
  pub concludes : ConcludesPieceAs said.early last w past text net said.counts said.verdict
  pub first : to_first ≡ true → (line : ℕ) → StopsInFrontBehind w past text line → IsEarly line said
