-- What is found of a trace of a net, and of a trace on the net of a netlist.
use Rattle.std.specs.Prelude.{◌≡◌, ℕ, ◌+◌, ◌≤◌, Bool, true, false, ◌&&◌, not, List, length, min, Option}
use Rattle.bz_model.specs.Nets.{Wiring}
use Rattle.bz_model.specs.Runs.{CanStep, Rest}
use Rattle.bz_flat.specs.Wires.{WellWired}
use Rattle.bz_net.specs.Progress.{Progress}
use Rattle.bz_trace_text.specs.declared.tally.Counts.{Counts}
use Rattle.bz_trace.specs.declared.checking.Verdict.{Verdict}
use Rattle.bz_trace.specs.declared.checking.Verdict.TheVariants as verdict
use Rattle.bz_trace.specs.Reading.{JudgesTo, LeavesTo, StopsInFront}
use Rattle.bz_trace.specs.Verdicts.{CountsRun, IsRunText}
use Rattle.bz_cli_input.specs.Opening.{Denotes}
use Rattle.bz_cli_source.specs.Surveys.{IsRead}
use Rattle.bz_cli_trace.specs.declared.case.Case.{Case}
use Rattle.bz_cli_trace.specs.declared.finding.Finding.{Finding}
use Rattle.bz_cli_trace.specs.declared.judged.Judged.{Judged}
use Rattle.bz_cli_trace.specs.declared.opened.Opened.{Opened}

abbrev pub is_run : Verdict → Bool
is_run verdict.Run = true
is_run v = false

-- the trace is that of a run, which ends at rest where it was to
abbrev pub is_passed : Finding → Bool
is_passed found = is_run found.verdict && not found.unrested

abbrev pub passes : Case → Bool
passes case = is_passed case.judged.found

-- the trace is that of a run that was to end at rest: some component can move where it ends, or none can
abbrev pub TellsRest : Bool → Verdict → Progress → Bool → Type 0
TellsRest to_rest v net true = (to_rest ≡ true) × (v ≡ verdict.Run) × ((comp : ℕ) × CanStep net.wiring.sites net.state comp)
TellsRest to_rest v net false = to_rest ≡ true → v ≡ verdict.Run → Rest net.wiring.sites net.state

-- This is what was found of a trace of the net, and there the net was left. It was asked for the whole trace, or for no more than up to
-- its first line that no run allows; and whether a run ends at rest.
pub record IsFound (to_first to_rest : Bool) (w : Wiring) (text : List ℕ) (judged : Judged) : Type 0 where
  pub wired : WellWired w
  pub wiring : judged.net.wiring ≡ w
  pub judges : JudgesTo judged.found.early w text judged.found.verdict
  pub whole : to_first ≡ false → judged.found.early ≡ false
  pub first : to_first ≡ true → (line : ℕ) → StopsInFront w text line → (judged.found.early ≡ true) × (judged.found.verdict ≡ verdict.Not line)
  pub counted : judged.found.verdict ≡ verdict.Run → CountsRun w text judged.found.counts
  pub leaves : LeavesTo judged.found.early w text judged.net judged.found.verdict
  pub rests : TellsRest to_rest judged.found.verdict judged.net judged.found.unrested

abbrev pub entry_count : Counts → ℕ
entry_count counts = min (counts.fired + counts.host + counts.rests) 18446744073709551615

-- the net is where each run ends whose trace the text is, and each has so many entries at most
pub record EndsRun (net : Progress) (trace : List ℕ) (entries : ℕ) : Type 0 where
  pub state : (run : IsRunText net.wiring trace) → run.last ≡ net.state
  pub few : (run : IsRunText net.wiring trace) → length run.entries ≤ entries

-- The netlist denotes the net, which comes of this text and part.
pub record IsOpened (netlist : List ℕ) (asked : Option (List ℕ)) (o : Opened) : Type 0 where
  pub net : Denotes netlist asked o.net.wiring
  pub read : IsRead netlist asked o.part.items o.net.wiring o.source.parts o.source.lines.items

-- The same of the net that a trace was judged on, with what was found of the trace.
pub record IsCase (to_first to_rest : Bool) (netlist trace : List ℕ) (asked : Option (List ℕ)) (c : Case) : Type 0 where
  pub net : Denotes netlist asked c.judged.net.wiring
  pub read : IsRead netlist asked c.part.items c.judged.net.wiring c.source.parts c.source.lines.items
  pub found : IsFound to_first to_rest c.judged.net.wiring trace c.judged
