-- What the command `complete` reads and writes: a netlist, a short trace, and the trace of a run that shows the same.
use Rattle.std.specs.Prelude.{◌≡◌, ⊤, ℕ, List, Option, Result, Ok, Err}
use Rattle.std.specs.Io.KnownBytes.{Appends}
use Rattle.bz_model.specs.Nets.{Wiring}
use Rattle.bz_net.specs.Simulation.{Simulation}
use Rattle.bz_trace.specs.Verdicts.{IsRunText}
use Rattle.bz_complete.specs.declared.short.ShortMove.{ShortMove}
use Rattle.bz_complete.specs.Completing.{IsFront, IsMade}
use Rattle.bz_complete.specs.Named.{AreNames, ChanTable}
use Rattle.bz_complete.specs.ShortTexts.{GoesTo, Spells}
use Rattle.bz_complete.specs.Shown.{shown}
use Rattle.bz_complete.specs.Stopping.{HasRun, IsDeadEndAt, IsRefuted}
use Rattle.bz_cli_input.specs.declared.fault.Fault.TheVariants.{Memory, Write}
use Rattle.bz_cli_input.specs.Answering.{Answers}
use Rattle.bz_cli_input.specs.Opening.{Denotes, RefusesNet}
use Rattle.bz_cli_input.specs.Statuses as command
use Rattle.bz_cli_input.specs.Stopping as stopping
use Rattle.bz_cli_trace.specs.Taking.{AnswersTwo}
use Rattle.bz_complete.specs.declared.fault.CompleteFault.{CompleteFault}
use Rattle.bz_complete.specs.declared.fault.CompleteFault.TheVariants.{Command, NotShort, Stopped, Unrested, TooLong}

abbrev pub status_of : CompleteFault → ℕ
status_of (Command fault) = command.status_of fault
status_of (NotShort line why) = 1
status_of (Stopped line why) = 1
status_of (Unrested line why) = 1
status_of TooLong = 3

-- The text is the trace of a run of the net, whose requests and replies are these moves.
pub record IsWhole (w : Wiring) (moves : List ShortMove) (text : List ℕ) : Type 0 where
  pub run : IsRunText w text
  pub shows : shown run.entries ≡ moves

-- A run of the net shows these moves, and none goes on from there to show the move of a line.
abbrev pub RunsTo : Wiring → List ShortMove → ℕ → List ShortMove → Type 0
RunsTo w moves line front = (run : HasRun w front) × IsDeadEndAt w run.last moves line

-- Why these moves are not made on the net: a run shows those before line number `line`, from 1, and goes on to show no more. Where
-- the move of that line is plain behind them, no run shows those up to it; of other moves that is not said. Of a net that is not at
-- rest behind all of them nothing is said.
abbrev pub RefusesMoves : Wiring → List ShortMove → CompleteFault → Type 0
RefusesMoves w moves (Command fault) = fault ≡ Memory
RefusesMoves w moves (NotShort line why) = ⊥
RefusesMoves w moves (Stopped line why) = IsFront (RunsTo w moves line) moves line × IsRefuted w moves line
RefusesMoves w moves (Unrested line why) = ⊤
RefusesMoves w moves TooLong = ⊤

abbrev pub Makes : Wiring → List ShortMove → Result Simulation CompleteFault → Type 0
Makes w moves (Ok net) = IsMade w moves net
Makes w moves (Err fault) = RefusesMoves w moves fault

-- Why no trace is made on the net of a text by these names of channels. Of a line that is none of a short trace it is said that those
-- before it are; that it is none is not said.
abbrev pub RefusesShort : Wiring → ChanTable → List ℕ → CompleteFault → Type 0
RefusesShort w names short (NotShort line why) = GoesTo names short line
RefusesShort w names short (Stopped line why) = (moves : List ShortMove) × Spells names short moves × RefusesMoves w moves (Stopped line why)
RefusesShort w names short (Command fault) = fault ≡ Memory
RefusesShort w names short (Unrested line why) = ⊤
RefusesShort w names short TooLong = ⊤

abbrev pub FindsIn : Wiring → ChanTable → List ℕ → Result Simulation CompleteFault → Type 0
FindsIn w names short (Ok net) = (moves : List ShortMove) × Spells names short moves × IsMade w moves net
FindsIn w names short (Err fault) = RefusesShort w names short fault

-- why there is no trace
abbrev pub RefusesComplete : List ℕ → List ℕ → Option (List ℕ) → CompleteFault → Type 0
RefusesComplete netlist short part (Command fault) = RefusesNet netlist part fault
RefusesComplete netlist short part fault = (w : Wiring) × Denotes netlist part w × ((names : ChanTable) × AreNames netlist part w names × RefusesShort w names short fault)

-- The netlist denotes a net, and the short trace spells moves by numbers and names of its channels.
pub record IsOfMoves (netlist short : List ℕ) (part : Option (List ℕ)) (w : Wiring) (moves : List ShortMove) : Type 0 where
  pub net : Denotes netlist part w
  pub names : ChanTable
  pub theirs : AreNames netlist part w names
  pub spelt : Spells names short moves

abbrev pub Finds : List ℕ → List ℕ → Option (List ℕ) → Result Simulation CompleteFault → Type 0
Finds netlist short part (Ok net) = (w : Wiring) × (moves : List ShortMove) × IsOfMoves netlist short part w moves × IsMade w moves net
Finds netlist short part (Err fault) = RefusesComplete netlist short part fault

-- the text is the trace of a run, whose requests and replies are the moves of the short trace
abbrev pub Completes : List ℕ → List ℕ → Option (List ℕ) → List ℕ → Type 0
Completes netlist short part text = (w : Wiring) × (moves : List ShortMove) × IsOfMoves netlist short part w moves × IsWhole w moves text

-- what goes out of a net on which moves were made
abbrev pub SendsTrace : Simulation → Option (List ℕ) → Option (List ℕ) → Type 0
SendsTrace net old new = (text : List ℕ) × Appends old new text × ((w : Wiring) (moves : List ShortMove) → IsMade w moves net → IsWhole w moves text)

abbrev pub SendsTraceSome : Simulation → Option (List ℕ) → Option (List ℕ) → Type 0
SendsTraceSome net old new = (text : List ℕ) × stopping.AppendsSome old new text × ((w : Wiring) (moves : List ShortMove) → IsMade w moves net → IsWhole w moves text)

-- There is no trace, and nothing goes out; or one goes out.
abbrev pub CompletesTexts : List ℕ → List ℕ → Option (List ℕ) → Option (List ℕ) → Option (List ℕ) → Result ⊤ CompleteFault → Type 0
CompletesTexts netlist short part old new answer = Answers (Command Write) (λ u text. Completes netlist short part text) (RefusesComplete netlist short part) old new answer

abbrev pub IsOfInput : CompleteFault → Type 0
IsOfInput (Command fault) = stopping.IsOfInput fault
IsOfInput fault = ⊥

-- The command `complete`, of a netlist and a short trace.
abbrev pub CompletesApart : List ℕ → List ℕ → Option (List ℕ) → Option (List ℕ) → Option (List ℕ) → Result ⊤ CompleteFault → Type 0
CompletesApart netlist short part old new answer = AnswersTwo IsOfInput (λ n s. CompletesTexts n s part old new answer) netlist short old new answer
