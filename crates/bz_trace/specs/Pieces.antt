-- A run in pieces: each is a trace that goes on where the one before ended. `past` are the entries of the pieces before.
use Rattle.std.specs.Prelude.{◌≡◌, ◌⊎◌, ⊤, ℕ, ◌+◌, ◌-◌, ◌≤◌, Bool, true, false, List, [], ◌∷◌, ◌++◌, length, map, take}
use Rattle.std.specs.List.{AllByRecursion}
use Rattle.bz_model.specs.declared.event.Entry.{Entry}
use Rattle.bz_model.specs.Nets.{Wiring, State, opening, outside}
use Rattle.bz_model.specs.Runs.{Run}
use Rattle.bz_model.specs.Entries.{HasLine, HasWho, told}
use Rattle.bz_model.specs.Limits.{max_entries}
use Rattle.bz_net.specs.Progress.{Progress, IsToldBy}
use Rattle.bz_trace_text.specs.declared.tally.Counts.{Counts}
use Rattle.bz_trace_text.specs.declared.text.Version.{Version}
use Rattle.bz_trace_text.specs.Counting.{Tells}
use Rattle.bz_trace_text.specs.Texts.{Trace, HasText, IsBad, first_line, lines, spelling}
use Rattle.bz_trace.specs.Verdicts.{AreDue, AreRunLines, DifferAt, IsAfter}
use Rattle.bz_trace.specs.declared.checking.Verdict.{Verdict}
use Rattle.bz_trace.specs.declared.checking.Verdict.TheVariants as verdict

-- behind the last piece those clash lines are due that a trace has there, and behind any other none
abbrev pub AreDueBehind : Bool → Wiring → Version → List Entry → List ℕ → Type 0
AreDueBehind true w version entries clashes = AreDue w version entries clashes
AreDueBehind false w version entries clashes = clashes ≡ []

-- The text is a trace, and what the pieces before tell with what it tells behind them is a run, with its clash lines at the last.
pub record IsPiece (last : Bool) (w : Wiring) (past : List Entry) (text : List ℕ) : Type 0 where
  pub trace : Trace
  pub has_text : HasText (outside w) trace
  pub text_is : text ≡ spelling w.ports trace
  pub journal : List Entry
  pub by : AllByRecursion HasWho journal
  pub alike : map told journal ≡ map told (past ++ trace.entries)
  pub end : State
  pub run : Run w (opening w) journal end
  pub due : AreDueBehind last w trace.version journal trace.clashes

-- Of these entries behind those before, the one on line number `line` of the piece is the first that no run allows.
pub record StopsBehind (w : Wiring) (past entries : List Entry) (line : ℕ) : Type 0 where
  pub before : List Entry
  pub here : Entry
  pub after : List Entry
  pub entries_are : entries ≡ before ++ here ∷ after
  pub line_is : line ≡ length before + 2
  pub runs : AreRunLines w (lines w.ports (past ++ before))
  pub fails : AreRunLines w (lines w.ports (past ++ (before ++ here ∷ []))) → ⊥

-- All entries are those of a run. Of the lines behind those of the piece `line` is the first that differs from the one that is due.
pub record StopsAtClashBehind (last : Bool) (w : Wiring) (past : List Entry) (trace : Trace) (line : ℕ) : Type 0 where
  pub journal : List Entry
  pub by : AllByRecursion HasWho journal
  pub end : State
  pub run : Run w (opening w) journal end
  pub alike : map told journal ≡ map told (past ++ trace.entries)
  pub clashes : List ℕ
  pub due : AreDueBehind last w trace.version journal clashes
  pub place : ℕ
  pub differ : DifferAt trace.clashes clashes place
  pub line_is : line ≡ length trace.entries + place + 2

-- the text is a trace, and `line` is the first of its lines that no run allows behind the pieces before
pub record IsNoPiece (last : Bool) (w : Wiring) (past : List Entry) (text : List ℕ) (line : ℕ) : Type 0 where
  pub trace : Trace
  pub has_text : HasText (outside w) trace
  pub text_is : text ≡ spelling w.ports trace
  pub stops : StopsBehind w past trace.entries line ⊎ StopsAtClashBehind last w past trace line

-- A want of memory says nothing.
abbrev pub JudgesPiece : Bool → Wiring → List Entry → List ℕ → Verdict → Type 0
JudgesPiece last w past text verdict.Run = IsPiece last w past text
JudgesPiece last w past text (verdict.Not line) = IsNoPiece last w past text line
JudgesPiece last w past text (verdict.Bad line) = IsBad (outside w) text line
JudgesPiece last w past text verdict.Memory = ⊤

-- A journal of the net tells the entries, and each run that tells them ends in the net's state: it stands where they lead.
pub record Along (w : Wiring) (net : Progress) (entries : List Entry) : Type 0 where
  pub wiring : net.wiring ≡ w
  pub journal : List Entry
  pub tells : map told journal ≡ map told entries
  pub each : AllByRecursion (HasLine (outside w)) journal
  pub of_net : IsToldBy net journal
  pub sole : (es : List Entry) (t : State) → Run w (opening w) es t → map told es ≡ map told entries → t ≡ net.state

-- the net stands behind pieces of a run, which have these entries
pub record IsBehind (w : Wiring) (net : Progress) (past : List Entry) : Type 0 where
  pub each : AllByRecursion (HasLine (outside w)) past
  pub along : Along w net past

-- behind some
abbrev pub StandsSomewhere : Progress → Type 0
StandsSomewhere net = (past : List Entry) × IsBehind net.wiring net past

-- the piece was followed: its entries were counted, and the net stands behind them
pub record GoesOver (last : Bool) (w : Wiring) (past : List Entry) (text : List ℕ) (net : Progress) (counts : Counts) : Type 0 where
  pub piece : IsPiece last w past text
  pub told_by : IsToldBy net piece.journal
  pub tells : Tells counts piece.trace.entries
  pub behind : IsBehind w net (past ++ piece.trace.entries)

-- where a check leaves the net: in front of the line that no run allows, or somewhere
abbrev pub LeavesPiece : Bool → Wiring → List Entry → List ℕ → Progress → Verdict → Type 0
LeavesPiece last w past text net (verdict.Not line) = (no : IsNoPiece last w past text line) × IsAfter net (past ++ take (line - 2) no.trace.entries)
LeavesPiece last w past text net v = (journal : List Entry) × IsToldBy net journal

-- What is said of a piece, with these counts, and where the net is left.
abbrev pub ConcludesPiece : Bool → Wiring → List Entry → List ℕ → Progress → Counts → Verdict → Type 0
ConcludesPiece last w past text net counts verdict.Run = GoesOver last w past text net counts
ConcludesPiece last w past text net counts (verdict.Not line) = LeavesPiece last w past text net (verdict.Not line)
ConcludesPiece last w past text net counts (verdict.Bad line) = IsBad (outside w) text line × LeavesPiece last w past text net (verdict.Bad line)
ConcludesPiece last w past text net counts verdict.Memory = ⊤

-- In front of the text stand the first line and lines of entries, of which `line` is the first that no run allows behind the pieces
-- before. Of what comes after these lines nothing is said.
pub record StopsInFrontBehind (w : Wiring) (past : List Entry) (text : List ℕ) (line : ℕ) : Type 0 where
  pub version : Version
  pub entries : List Entry
  pub each : AllByRecursion (HasLine (outside w)) entries
  pub few : length entries ≤ max_entries
  pub more : List ℕ
  pub text_is : text ≡ first_line version ++ (lines w.ports entries ++ more)
  pub stops : StopsBehind w past entries line

-- a verdict on the whole of a piece; or an early one, on the first line that no run allows
abbrev pub JudgesPieceTo : Bool → Bool → Wiring → List Entry → List ℕ → Verdict → Type 0
JudgesPieceTo false last w past text v = JudgesPiece last w past text v
JudgesPieceTo true last w past text (verdict.Not line) = StopsInFrontBehind w past text line
JudgesPieceTo true last w past text v = ⊥

abbrev pub LeavesPieceEarly : Wiring → List Entry → List ℕ → Progress → Verdict → Type 0
LeavesPieceEarly w past text net (verdict.Not line) = (stops : StopsInFrontBehind w past text line) × IsAfter net (past ++ take (line - 2) stops.entries)
LeavesPieceEarly w past text net v = ⊥
