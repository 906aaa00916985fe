-- How the program ends: with a status, or with the fault of its command, which it tells.
use Rattle.std.specs.Prelude.{◌≡◌, ◌⊎◌, ℕ, ◌<◌, ◌≤◌, ◌&&◌, ◌||◌, ⊤, is_some, Bool, if◌then◌else◌, Option, None, Some, Result, Ok, Err, List, []}
use Rattle.std.specs.Io.KnownBytes.{Keeps}
use Rattle.bz_cli.specs.declared.pooling.Pooled.{Pooled}
use Rattle.bz_cli_input.specs.declared.fault.Fault.{Fault}
use Rattle.bz_complete.specs.declared.fault.CompleteFault.{CompleteFault}
use Rattle.bz_complete.specs.declared.fault.CompleteFault.TheVariants as complete
use Rattle.bz_complete.specs.Completions as completing
use Rattle.bz_cli_core.specs.declared.playing.Halt.{Halt}
use Rattle.bz_cli_core.specs.declared.run.Played.{Played}
use Rattle.bz_trace.specs.declared.checking.Verdict.{Verdict}
use Rattle.bz_trace.specs.declared.checking.Verdict.TheVariants as verdict
use Rattle.bz_cli_input.specs.Answering.{Answers, SendsOne}
use Rattle.bz_cli_input.specs.Opening.{RefusesNet}
use Rattle.bz_cli_input.specs.Stopping.{StopsAtInput}
use Rattle.bz_cli_input.specs.declared.fault.Fault.TheVariants.{Memory, Write}
use Rattle.bz_cli_trace.specs.declared.case.Case.{Case}
use Rattle.bz_cli_trace.specs.declared.unmade.Unmade.{Unmade}
use Rattle.bz_cli_trace.specs.declared.unmade.Unmade.TheVariants.{Command, Other}
use Rattle.bz_cli_trace.specs.declared.way.CheckWay.{CheckWay}
use Rattle.bz_cli_trace.specs.Judging.{IsCase, passes}
use Rattle.bz_cli_trace.specs.Telling.{SaysVerdict}
use Rattle.bz_cli_args.specs.declared.asked.ChartOptions.{ChartOptions}
use Rattle.bz_cli_args.specs.declared.asked.WaitsOptions.{WaitsOptions}
use Rattle.bz_cli_args.specs.declared.asked.SeedsAsked.{SeedsAsked}
use Rattle.bz_cli_args.specs.declared.asked.SeedsAsked.TheVariants as asked
use Rattle.bz_cli_bench.specs.declared.asked.Seeds.{Seeds}
use Rattle.bz_cli_bench.specs.declared.asked.Seeds.TheVariants as seeds
use Rattle.bz_cli_waits.specs.declared.asked.WaitsAsked.{WaitsAsked}
use Rattle.bz_chart.specs.declared.range.LineRange.{LineRange}

-- The command has answered something of which this is said, and the program ends so of that answer.
abbrev pub Does : {A : Type 0} → (A → Result ℕ Fault) → (A → Type 0) → Result ℕ Fault → Type 0
Does {A = A} ending Says result = (answer : A) × Says answer × (result ≡ ending answer)

-- 0 where it was done
abbrev pub of_done : {A : Type 0} → Result A Fault → Result ℕ Fault
of_done (Ok u) = Ok 0
of_done (Err fault) = Err fault

abbrev pub IsDone : (Result ⊤ Fault → Type 0) → Result ℕ Fault → Type 0
IsDone Says result = Does of_done Says result

-- 0 where all words of a run were played, and 4 where it halted
abbrev pub of_halt : Option Halt → ℕ
of_halt None = 0
of_halt (Some halt) = 4

abbrev pub of_run : Result Played Fault → Result ℕ Fault
of_run (Ok played) = Ok (of_halt played.halt)
of_run (Err fault) = Err fault

-- The netlist or the trace is not taken, the netlist is refused, or what is found of the trace goes out: 0 where it is that of a run,
-- which ends at rest where it has to, and else 1.
abbrev pub SaysFound : CheckWay → List ℕ → List ℕ → Option (List ℕ) → ℕ → List ℕ → Type 0
SaysFound way netlist trace part status text =
    (case : Case) × IsCase way.to_first way.to_rest netlist trace part case × SaysVerdict [] case.judged.found text
    × (status ≡ (if passes case then 0 else 1))

abbrev pub ChecksOn : CheckWay → List ℕ → List ℕ → Option (List ℕ) → Option (List ℕ) → Option (List ℕ) → Result ℕ Fault → Type 0
ChecksOn way netlist trace part old new result =
    StopsAtInput old new result ⊎ Answers Write (SaysFound way netlist trace part) (RefusesNet netlist part) old new result

-- the same of a trace that was judged, or of the fault for which it wasn't
abbrev pub TellsCase : Result Case Fault → Option (List ℕ) → Option (List ℕ) → Result ℕ Fault → Type 0
TellsCase (Ok case) old new result =
    Answers Write (λ status text. SaysVerdict [] case.judged.found text × (status ≡ (if passes case then 0 else 1))) (λ fault. fault ≡ Memory) old new result
TellsCase (Err fault) old new result = (result ≡ Err fault) × Keeps old new

-- 1 where a trace is that of no run
abbrev pub NoRunEnds : Verdict → Result ℕ Fault → Type 0
NoRunEnds verdict.Memory result = result ≡ Err Memory
NoRunEnds v result = result ≡ Ok 1

-- 0 where there is a drawing, and else 2
abbrev pub of_drawing : {N : Type 0} → Result (Option N) Fault → Result ℕ Fault
of_drawing (Ok None) = Ok 0
of_drawing (Ok (Some why)) = Ok 2
of_drawing (Err fault) = Err fault

-- 2 where nothing is made of the trace of a run
abbrev pub of_unmade : {C : Type 0} → Unmade C → Result ℕ Fault
of_unmade (Command fault) = Err fault
of_unmade (Other cause) = Ok 2

-- 0 where a page is made of it
abbrev pub of_made : {A C : Type 0} → Result A (Unmade C) → Result ℕ Fault
of_made (Ok u) = Ok 0
of_made (Err fault) = of_unmade fault

-- What was made of a trace goes out, with status 0, or 4 where that is asked for and something can never move again; or the status says
-- why nothing was made.
abbrev pub EndsWith : {A C : Type 0} → Result A (Unmade C) → (A → List ℕ) → (A → Bool) → Bool → Option (List ℕ) → Option (List ℕ) → Result ℕ Fault → Type 0
EndsWith (Ok it) text is_stuck strict old new result =
    SendsOne Write (λ status sent. (sent ≡ text it) × (status ≡ (if (is_stuck it && strict) then 4 else 0))) old new result
EndsWith (Err fault) text is_stuck strict old new result = (result ≡ of_unmade fault) × Keeps old new

-- 0 where a trace was made of a short one, and else the status that says why none is
abbrev pub of_completed : Result ⊤ CompleteFault → Result ℕ Fault
of_completed (Ok u) = Ok 0
of_completed (Err (complete.Command fault)) = Err fault
of_completed (Err fault) = Ok (completing.status_of fault)

-- 0 where a pool was closed, or 4 where a session has not played all its words and that is asked for
abbrev pub pooled_status : Bool → Bool → ℕ
pooled_status strict is_done = if is_done then 0 else (if strict then 4 else 0)

abbrev pub of_pooled : Bool → Result Pooled Fault → Result ℕ Fault
of_pooled strict (Ok pooled) = Ok (pooled_status strict pooled.is_done)
of_pooled strict (Err fault) = Err fault

-- the lines of a trace that are asked for; only some of these are drawn where something is picked
abbrev pub lines_asked : ChartOptions → LineRange
lines_asked options = record { from = options.from; to = options.to; picks = is_some options.only || options.ports }

-- the line and the component that are asked for
abbrev pub waits_asked : WaitsOptions → WaitsAsked
waits_asked options = record { line = options.line; comp = options.comp }

-- the seeds that are asked for
abbrev pub seeds_asked : SeedsAsked → Seeds
seeds_asked asked.None = seeds.Without
seeds_asked (asked.One seed) = seeds.One seed
seeds_asked (asked.Upto last) = seeds.Upto last

-- the most entries of a journal, and the number of workers, that a command line may name
abbrev pub IsJournal : ℕ → Type 0
IsJournal most = (0 < most) × (most ≤ 16777216)

abbrev pub AreWorkers : ℕ → Type 0
AreWorkers count = (0 < count) × (count ≤ 8)

-- The command line is refused, and nothing goes out.
abbrev pub IsRefused : Option (List ℕ) → Option (List ℕ) → Result ℕ Fault → Type 0
IsRefused old new result = (result ≡ Ok 2) × Keeps old new
