-- What the command `waits` tells of the trace of a run: whether something can never move again behind a line of it.
use Rattle.std.specs.Prelude.{ℕ, ◌-◌, Bool, MatchBool, List, length, Result, Ok, Err}
use Rattle.bz_model.specs.Nets.{Wiring, State}
use Rattle.bz_trace.specs.Verdicts.{IsRunText}
use Rattle.bz_since.specs.Since.{HasStuck, IsBehind}
use Rattle.bz_cli_trace.specs.declared.unmade.Unmade.{Unmade}
use Rattle.bz_cli_trace.specs.Making.{RefusesMaking}
use Rattle.bz_cli_waits.specs.declared.asked.WaitsAsked.{WaitsAsked}
use Rattle.bz_cli_waits.specs.declared.asked.WaitsFault.{WaitsFault}
use Rattle.bz_cli_waits.specs.declared.told.Told.{Told}
use Rattle.bz_cli_waits.specs.Asking.{IsLine, IsNone}
use Rattle.bz_trace_text.specs.Counting.{line_count}

-- whether something is stuck behind this line of each run that the text is the trace of
abbrev pub IsTold : Wiring → List ℕ → ℕ → Bool → Type 0
IsTold w trace line is = (run : IsRunText w trace) → (s : State) × IsBehind w run.entries run.last (line - 1) s × MatchBool is (HasStuck w s) (HasStuck w s → ⊥)

-- of the line that is asked for
abbrev pub IsToldOf : Wiring → List ℕ → WaitsAsked → Bool → Type 0
IsToldOf w trace asked is = (line : ℕ) × IsLine asked (line_count trace) (length w.sites) line × IsTold w trace line is

-- the line or the component isn't there
abbrev pub RefusesAsked : List ℕ → WaitsAsked → Wiring → WaitsFault → Type 0
RefusesAsked trace asked w fault = IsNone asked (line_count trace) (length w.sites) fault

-- What comes of the trace of a run: it is told, or the reason why not is answered.
abbrev pub FindsIn : Wiring → List ℕ → WaitsAsked → Result Told (Unmade WaitsFault) → Type 0
FindsIn w trace asked (Ok told) = IsToldOf w trace asked told.is_stuck
FindsIn w trace asked (Err fault) = RefusesMaking (RefusesAsked trace asked w) fault
