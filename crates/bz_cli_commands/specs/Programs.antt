-- What the program does of each command, with these words and this input: with what status or fault it ends, and what went out.
use Rattle.std.specs.Prelude.{◌≡◌, ◌≢◌, ◌⊎◌, ℕ, ⊤, Bool, false, true, ◌&&◌, if◌then◌else◌, is_some, length, Option, None, Some, Result, List, [], IfSome}
use Rattle.bz_model.specs.Nets.{Wiring}
use Rattle.bz_chart.specs.Charting.{HasPiece, RefusesPiece}
use Rattle.bz_cli.specs.Pooling.{Pools}
use Rattle.bz_cli_bench.specs.Cases.{Tests}
use Rattle.bz_cli_args.specs.declared.asked.CheckOptions.{CheckOptions}
use Rattle.bz_cli_args.specs.declared.asked.Command.{Command}
use Rattle.bz_cli_args.specs.declared.asked.Command.TheVariants as asked
use Rattle.bz_cli_args.specs.declared.asked.DrawOptions.{DrawOptions}
use Rattle.bz_cli_args.specs.declared.asked.ListOptions.{ListOptions}
use Rattle.bz_cli_args.specs.declared.asked.PoolOptions.{PoolOptions}
use Rattle.bz_cli_args.specs.declared.asked.RunOptions.{RunOptions}
use Rattle.bz_cli_args.specs.declared.asked.WaitsOptions.{WaitsOptions}
use Rattle.bz_complete.specs.Completions.{CompletesApart}
use Rattle.bz_cli_core.specs.Running.{Runs}
use Rattle.bz_cli_input.specs.Answering.{AnswersInput}
use Rattle.bz_cli_input.specs.Listed.{Lists}
use Rattle.bz_cli_input.specs.declared.fault.Fault.{Fault}
use Rattle.bz_cli_source.specs.Listed as placed
use Rattle.bz_cli_source.specs.PartLists.{ListsParts}
use Rattle.bz_cli_input.specs.Stopping.{IsOfInput, StopsAtInput}
use Rattle.bz_cli_trace.specs.Judging.{IsCase}
use Rattle.bz_cli_trace.specs.Making.{MakesOf, Sends}
use Rattle.bz_cli_trace.specs.Taking.{OnTexts}
use Rattle.bz_cli_trace.specs.declared.case.Case.{Case}
use Rattle.bz_cli_trace.specs.declared.way.CheckWay.{CheckWay}
use Rattle.bz_cli_several.specs.Several.{ChecksSeveral}
use Rattle.bz_cli_waits.specs.Telling.{IsToldOf, RefusesAsked}
use Rattle.bz_cli_waits.specs.declared.asked.WaitsFault.{WaitsFault}
use Rattle.bz_draw.specs.Behind.{HasLine, IsUndrawn}
use Rattle.bz_trace_text.specs.Counting.{line_count}
use Rattle.bz_draw.specs.Drawing.{Draws, IsWhole}
use Rattle.bz_draw.specs.declared.fault.NoDrawing.{NoDrawing}
use Rattle.bz_draw.specs.declared.fault.NoMoment.{NoMoment}
use Rattle.bz_cli_kinds.specs.Kinds.{TellsKinds}
use Rattle.bz_source.specs.declared.file.SourceFile.{SourceFile}
use Rattle.bz_page.specs.Pages.{Blank}
use Rattle.bz_page.specs.Paging.{IsPage, IsTooLarge}
use Rattle.bz_page.specs.declared.fault.TooLarge.{TooLarge}
use Rattle.bz_trace.specs.declared.checking.Verdict.TheVariants as verdict
use Rattle.bz_cli_commands.specs.declared.makers.Maker.{Maker}
use Rattle.bz_cli_commands.specs.declared.makers.Maker.TheVariants as maker
use Rattle.bz_cli_commands.specs.Endings.{AreWorkers, ChecksOn, Does, IsDone, IsJournal, IsRefused, lines_asked, of_completed, of_drawing, of_pooled, of_run, seeds_asked, waits_asked}

-- `run`, where the journal may be as long as is asked for
abbrev pub RunEnds : RunOptions → List (List ℕ) → Option (List ℕ) → Option (List ℕ) → Option (List ℕ) → Option (List ℕ) → Result ℕ Fault → Type 0
RunEnds options words part known old new result =
    ((IsJournal options.journal → ⊥) → IsRefused old new result)
    × (IsJournal options.journal → IfSome known (λ text. Does of_run (Runs text words part options.journal options.strict old new) result))

-- what is asked of a trace by the command line: not more than up to its first line that no run allows only of one that a reader of its own gives
abbrev pub way_asked : CheckOptions → Bool → CheckWay
way_asked options apart = record { to_first = options.first && apart; to_rest = options.to_rest; keeps = false }

-- `check` of the trace after the netlist: without one the command line is refused
abbrev pub CheckBehind : Bool → CheckWay → List ℕ → List ℕ → Option (List ℕ) → Option (List ℕ) → Option (List ℕ) → Result ℕ Fault → Type 0
CheckBehind is_file way netlist trace part old new result =
    ((is_file ≡ true) × (trace ≡ []) × IsRefused old new result)
    ⊎ ((is_file ≡ true → trace ≢ []) × ChecksOn way netlist trace part old new result)

-- `check`, of the trace after the netlist, or of one that a reader of its own gives, which may be longer than any limit
abbrev pub CheckEnds : CheckOptions → Bool → Option (List ℕ) → Option (List ℕ) → Option (Option (List ℕ)) → Option (List ℕ) → Option (List ℕ) → Result ℕ Fault → Type 0
CheckEnds options is_file part known None old new result =
    OnTexts (λ netlist trace. CheckBehind is_file (way_asked options false) netlist trace part old new result) known None old new result
CheckEnds options is_file part known (Some apart) old new result =
    IfSome known (λ netlist. IfSome apart (λ trace.
    AnswersInput IsOfInput (λ n. ChecksOn (way_asked options true) n trace part old new result) netlist old new result))

-- the same with the line that is written; or with an object in its place, of which nothing is said
abbrev pub CheckTells : CheckOptions → Bool → Option (List ℕ) → Option (List ℕ) → Option (Option (List ℕ)) → Option (List ℕ) → Option (List ℕ) → Result ℕ Fault → Type 0
CheckTells options is_file part known trace old new result =
    (options.json ≡ false → CheckEnds options is_file part known trace old new result)
    × (options.json ≡ true → (from to : Option (List ℕ)) × CheckEnds options is_file part known trace from to result)

-- `check` of the traces that words name, each by itself or as the pieces of one run
abbrev pub SeveralEnd : CheckOptions → (List ℕ → Option (List ℕ)) → List (List ℕ) → Option (List ℕ) → Option (List ℕ) → Option (List ℕ) → Option (List ℕ) → Result ℕ Fault → Type 0
SeveralEnd options named words part known old new result = IfSome known (λ text. ChecksSeveral options named words text part old new result)

-- `check`, of one trace or of several
abbrev pub ChecksAll : CheckOptions → (List ℕ → Option (List ℕ)) → List (List ℕ) → Bool → Option (List ℕ) → Option (List ℕ) → Option (Option (List ℕ)) → Option (List ℕ) → Option (List ℕ) → Result ℕ Fault → Type 0
ChecksAll options named words is_file part known trace old new result =
    (options.several ≡ false → CheckTells options is_file part known trace old new result)
    × (options.several ≡ true → SeveralEnd options named words part known old new result)

-- `complete`, of the short trace that a reader of its own gives
abbrev pub CompleteEnds : Option (List ℕ) → Option (List ℕ) → Option (Option (List ℕ)) → Option (List ℕ) → Option (List ℕ) → Result ℕ Fault → Type 0
CompleteEnds part known None old new result = IsRefused old new result
CompleteEnds part known (Some apart) old new result =
    IfSome known (λ netlist. IfSome apart (λ text. Does of_completed (CompletesApart netlist text part old new) result))

-- `list`, with places where they are asked for
abbrev pub ListEnds : ListOptions → Option (List ℕ) → Option (List ℕ) → Option (List ℕ) → Option (List ℕ) → Result ℕ Fault → Type 0
ListEnds options part known old new result =
    (options.paths ≡ false → IfSome known (λ text. IsDone (Lists text part old new) result))
    × (options.paths ≡ true → IfSome known (λ text. IsDone (placed.Lists text part old new) result))

-- what is told of a trace by `waits`, with the status that is asked for
abbrev pub TellsWaits : WaitsOptions → List ℕ → Wiring → ℕ → List ℕ → Type 0
TellsWaits options trace w status text = (is : Bool) × IsToldOf w trace (waits_asked options) is × (status ≡ (if (is && options.strict) then 4 else 0))

-- and why it isn't told
abbrev pub RefusesWaits : WaitsOptions → List ℕ → Wiring → Type 0
RefusesWaits options trace w = (fault : WaitsFault) × RefusesAsked trace (waits_asked options) w fault

abbrev pub WaitsOn : WaitsOptions → Option (List ℕ) → List ℕ → List ℕ → Option (List ℕ) → Option (List ℕ) → Result ℕ Fault → Type 0
WaitsOn options part netlist trace old new result =
    StopsAtInput old new result ⊎ MakesOf (TellsWaits options trace) (RefusesWaits options trace) netlist trace part old new result

-- `draw` of a net
abbrev pub DrawEnds : Option (List ℕ) → Option (List ℕ) → Option (List ℕ) → Option (List ℕ) → Result ℕ Fault → Type 0
DrawEnds part known old new result = IfSome known (λ text. Does of_drawing (Draws {N = NoDrawing} text part old new) result)

-- What is made of the trace of a run, and why nothing is: `chart` of the lines that are asked for, `draw` behind the line that is asked
-- for, and `page` with these files of the source.
abbrev pub MadeOf : Maker → List SourceFile → List ℕ → List ℕ → Option (List ℕ) → Wiring → List ℕ → Type 0
MadeOf (maker.Chart options) sources netlist trace part w sent = HasPiece (lines_asked options) trace
MadeOf (maker.Draw options) sources netlist trace part w sent = HasLine options.line trace × IsWhole sent
MadeOf maker.Page sources netlist trace part w sent = (blank : Blank) × IsPage blank netlist w part trace sources sent

abbrev pub UnmadeOf : Maker → List ℕ → Wiring → Type 0
UnmadeOf (maker.Chart options) trace w = RefusesPiece (lines_asked options) trace
UnmadeOf (maker.Draw options) trace w = (why : NoMoment) × IsUndrawn options.line (line_count trace) why
UnmadeOf maker.Page trace w = (large : TooLarge) × IsTooLarge w large

-- only of the trace of a run something is made
abbrev pub MakesOn : Maker → List SourceFile → Option (List ℕ) → List ℕ → List ℕ → Option (List ℕ) → Option (List ℕ) → Result ℕ Fault → Type 0
MakesOn what sources part netlist trace old new result =
    StopsAtInput old new result ⊎ MakesOf (Sends (MadeOf what sources netlist trace part)) (UnmadeOf what trace) netlist trace part old new result

-- the same of a trace that was judged to be that of a run
abbrev pub MakesIn : Maker → List SourceFile → Case → List ℕ → Option (List ℕ) → Option (List ℕ) → Result ℕ Fault → Type 0
MakesIn what sources case trace old new result =
    (netlist : List ℕ) (part : Option (List ℕ)) → IsCase false false netlist trace part case → case.judged.found.verdict ≡ verdict.Run
    → MakesOn what sources part netlist trace old new result

-- `chart`, `draw` of a trace and `page`: of the trace after the netlist, or of that of a reader of its own
abbrev pub Makes : Maker → List SourceFile → Option (List ℕ) → Option (List ℕ) → Option (Option (List ℕ)) → Option (List ℕ) → Option (List ℕ) → Result ℕ Fault → Type 0
Makes what sources part known trace old new result = OnTexts (λ n t. MakesOn what sources part n t old new result) known trace old new result

-- `waits`, of either
abbrev pub WaitsEnds : WaitsOptions → Option (List ℕ) → Option (List ℕ) → Option (Option (List ℕ)) → Option (List ℕ) → Option (List ℕ) → Result ℕ Fault → Type 0
WaitsEnds options part known trace old new result = OnTexts (λ n t. WaitsOn options part n t old new result) known trace old new result

-- `draw`, of a net, or of one behind a line of a trace
abbrev pub DrawOrMake : DrawOptions → List SourceFile → Option (List ℕ) → Option (List ℕ) → Option (Option (List ℕ)) → Option (List ℕ) → Option (List ℕ) → Result ℕ Fault → Type 0
DrawOrMake options sources part known None old new result = DrawEnds part known old new result
DrawOrMake options sources part known (Some apart) old new result = Makes (maker.Draw options) sources part known (Some apart) old new result

-- `pool`, where there may be as many workers and entries as are asked for; where it is strict, the status says whether each session
-- has played all its words
abbrev pub PoolEnds : PoolOptions → List (List ℕ) → Option (List ℕ) → Option (List ℕ) → Option (List ℕ) → Option (List ℕ) → Result ℕ Fault → Type 0
PoolEnds options words part known old new result =
    ((AreWorkers options.workers × IsJournal options.journal → ⊥) → IsRefused old new result)
    × (AreWorkers options.workers → IsJournal options.journal
    → IfSome known (λ text. Does (of_pooled options.strict) (Pools text words part options.workers options.fuel options.journal old new) result))

-- What the program does of a command, what traces are by their names where that is known, its words, which for `test` are the benches and
-- for `check` the names of several traces, the files of the source that are shown, whether the netlist is that of a file, the part that is
-- asked for, the input where it is known, and the bytes of a trace apart where there is one. Of `explore` and `lint` nothing is said.
abbrev pub ProgramDoes : Command → (List ℕ → Option (List ℕ)) → List (List ℕ) → List SourceFile → Bool → Option (List ℕ) → Option (List ℕ) → Option (Option (List ℕ)) → Option (List ℕ) → Option (List ℕ) → Result ℕ Fault → Type 0
ProgramDoes (asked.Run options) named words sources is_file part known trace old new result = RunEnds options words part known old new result
ProgramDoes (asked.Explore options) named words sources is_file part known trace old new result = ⊤
ProgramDoes (asked.Check options) named words sources is_file part known trace old new result = ChecksAll options named words is_file part known trace old new result
ProgramDoes (asked.Complete options) named words sources is_file part known trace old new result = CompleteEnds part known trace old new result
ProgramDoes (asked.Waits options) named words sources is_file part known trace old new result = WaitsEnds options part known trace old new result
ProgramDoes (asked.List options) named words sources is_file part known trace old new result = ListEnds options part known old new result
ProgramDoes (asked.Lint options) named words sources is_file part known trace old new result = ⊤
ProgramDoes asked.Parts named words sources is_file part known trace old new result = IfSome known (λ text. IsDone (ListsParts text old new) result)
ProgramDoes (asked.Kinds options) named words sources is_file part known trace old new result = IsDone (TellsKinds options.json old new) result
ProgramDoes (asked.Draw options) named words sources is_file part known trace old new result = DrawOrMake options sources part known trace old new result
ProgramDoes (asked.Chart options) named words sources is_file part known trace old new result = Makes (maker.Chart options) sources part known trace old new result
ProgramDoes (asked.Page options) named words sources is_file part known trace old new result = Makes maker.Page sources part known trace old new result
ProgramDoes (asked.Pool options) named words sources is_file part known trace old new result = PoolEnds options words part known old new result
ProgramDoes (asked.Test options) named words sources is_file part known trace old new result = Tests (seeds_asked options.seeds) (length words) (is_some options.cover) result
