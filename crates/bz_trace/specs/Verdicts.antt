-- What is said of a text: it is the trace of a run, or the first line that no run allows, or the first that is no line.
use Rattle.std.specs.Prelude.{◌≡◌, ◌≢◌, ◌⊎◌, ⊤, ℕ, ◌+◌, ◌-◌, ◌≤◌, Option, Some, None, List, [], ◌∷◌, ◌++◌, length, map, take, MatchOption}
use Rattle.std.specs.List.{AllByRecursion}
use Rattle.bz_model.specs.declared.event.Entry.{Entry}
use Rattle.bz_model.specs.Nets.{Wiring, State, opening, outside}
use Rattle.bz_model.specs.Runs.{Run}
use Rattle.bz_model.specs.Clashes.{AreClashed}
use Rattle.bz_model.specs.Entries.{HasWho, IsNumber32, told}
use Rattle.bz_net.specs.Progress.{Progress, IsToldBy}
use Rattle.bz_trace_text.specs.declared.tally.Counts.{Counts}
use Rattle.bz_model.specs.Limits.{max_entries}
use Rattle.bz_trace_text.specs.declared.text.Version.{Version}
use Rattle.bz_trace_text.specs.declared.text.Version.TheVariants.{One, Two}
use Rattle.bz_trace_text.specs.Counting.{Tells}
use Rattle.bz_trace_text.specs.Texts.{lines, clash_lines, Trace, HasText, spelling, IsBad}
use Rattle.bz_trace.specs.declared.checking.Verdict.{Verdict}
use Rattle.bz_trace.specs.declared.checking.Verdict.TheVariants as verdict

-- what a trace of this version tells of the components at which requests met: in version 1 nothing, in version 2 all
abbrev pub AreDue : Wiring → Version → List Entry → List ℕ → Type 0
AreDue w One entries comps = comps ≡ []
AreDue w Two entries comps = AreClashed w entries comps

-- the trace of some run from the opening, of at most so many entries
pub record IsRunText (w : Wiring) (text : List ℕ) : Type 0 where
  pub version : Version
  pub entries : List Entry
  pub by : AllByRecursion HasWho entries
  pub few : length entries ≤ max_entries
  pub last : State
  pub run : Run w (opening w) entries last
  pub clashes : List ℕ
  pub due : AreDue w version entries clashes
  pub text_is : text ≡ spelling w.ports (record { version = version; entries = entries; clashes = clashes })

-- the lines of some run from the opening
pub record AreRunLines (w : Wiring) (text : List ℕ) : Type 0 where
  pub entries : List Entry
  pub by : AllByRecursion HasWho entries
  pub last : State
  pub run : Run w (opening w) entries last
  pub text_is : text ≡ lines w.ports entries

-- Of these entries, line number `line` is the first that no run allows: the lines before it are those of a run, and with
-- this line they are of none. The first entry stands on line 2.
pub record StopsAtEntry (w : Wiring) (entries : List Entry) (line : ℕ) : Type 0 where
  pub before : List Entry
  pub here : Entry
  pub after : List Entry
  pub entries_are : entries ≡ before ++ here ∷ after
  pub line_is : line ≡ length before + 2
  pub runs : AreRunLines w (lines w.ports before)
  pub fails : AreRunLines w (lines w.ports (before ++ here ∷ [])) → ⊥

abbrev pub first_of : List ℕ → Option ℕ
first_of [] = None
first_of (x ∷ xs) = Some x

-- up to a place, counted from 0, two lists are the same; there they differ, or only one of them goes on
pub record DifferAt (xs ys : List ℕ) (place : ℕ) : Type 0 where
  pub front : List ℕ
  pub rest : List ℕ
  pub other : List ℕ
  pub xs_are : xs ≡ front ++ rest
  pub ys_are : ys ≡ front ++ other
  pub place_is : place ≡ length front
  pub apart : first_of rest ≢ first_of other

-- The entries are those of a run. Of the lines behind them `line` is the first that differs from the one that is due, or
-- stands where none is; or it is the number after the last line, where more are due.
pub record StopsAtClash (w : Wiring) (trace : Trace) (line : ℕ) : Type 0 where
  pub entries : List Entry
  pub by : AllByRecursion HasWho entries
  pub last : State
  pub run : Run w (opening w) entries last
  pub alike : lines w.ports trace.entries ≡ lines w.ports entries
  pub clashes : List ℕ
  pub due : AreDue w trace.version entries clashes
  pub place : ℕ
  pub differ : DifferAt trace.clashes clashes place
  pub line_is : line ≡ length trace.entries + place + 2

-- the text is a trace, and `line` is its first line that no run allows
pub record IsNoRun (w : Wiring) (text : List ℕ) (line : ℕ) : Type 0 where
  pub trace : Trace
  pub has_text : HasText (outside w) trace
  pub text_is : text ≡ spelling w.ports trace
  pub stops : StopsAtEntry w trace.entries line ⊎ StopsAtClash w trace line

-- A want of memory says nothing.
abbrev pub Judges : Wiring → List ℕ → Verdict → Type 0
Judges w text verdict.Run = IsRunText w text
Judges w text (verdict.Not line) = IsNoRun w text line
Judges w text (verdict.Bad line) = IsBad (outside w) text line
Judges w text verdict.Memory = ⊤

-- the text is that of a run, and so many of its entries are of each kind
abbrev pub CountsRun : Wiring → List ℕ → Counts → Type 0
CountsRun w text counts = (run : IsRunText w text) × Tells counts run.entries

-- a run led the net to where it is whose lines are those of these entries
abbrev pub IsAfter : Progress → List Entry → Type 0
IsAfter net entries = (journal : List Entry) × (map told journal ≡ map told entries) × IsToldBy net journal

-- Where a check leaves the net: at the end of the run, or in front of the line that no run allows.
abbrev pub Leaves : Wiring → List ℕ → Progress → Verdict → Type 0
Leaves w text net verdict.Run = (run : IsRunText w text) × IsToldBy net run.entries
Leaves w text net (verdict.Not line) = (no : IsNoRun w text line) × IsAfter net (take (line - 2) no.trace.entries)
Leaves w text net (verdict.Bad line) = (journal : List Entry) × IsToldBy net journal
Leaves w text net verdict.Memory = ⊤

-- What is said of a text, with these counts, and where the net is left.
abbrev pub Concludes : Wiring → List ℕ → Progress → Counts → Verdict → Type 0
Concludes w text net counts verdict.Run = (run : IsRunText w text) × Tells counts run.entries × IsToldBy net run.entries
Concludes w text net counts (verdict.Not line) = Leaves w text net (verdict.Not line)
Concludes w text net counts (verdict.Bad line) = IsBad (outside w) text line × Leaves w text net (verdict.Bad line)
Concludes w text net counts verdict.Memory = ⊤

-- The first place at which these clash lines are other than those due.
abbrev pub FirstDiffers : List ℕ → List ℕ → Option ℕ → Type 0
FirstDiffers text due place = (clashes : List ℕ) → AllByRecursion IsNumber32 clashes → text ≡ clash_lines clashes → MatchOption place (clashes ≡ due) (DifferAt clashes due)
