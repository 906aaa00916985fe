-- What the command `chart` makes of the trace of a run: a drawing.
use Rattle.std.specs.Prelude.{ℕ, ⊤, List, Result, Ok, Err}
use Rattle.bz_cli_trace.specs.declared.unmade.Unmade.{Unmade}
use Rattle.bz_cli_trace.specs.Making.{RefusesMaking}
use Rattle.bz_chart.specs.declared.lines.Undrawn.{Undrawn}
use Rattle.bz_chart.specs.declared.lines.Undrawn.TheVariants.{Memory, Piece}
use Rattle.bz_chart.specs.declared.range.LineRange.{LineRange}
use Rattle.bz_chart.specs.declared.range.PieceFault.{PieceFault}
use Rattle.bz_chart.specs.Pieces.{IsPiece, IsNoPiece}
use Rattle.bz_trace_text.specs.Counting.{line_count}

-- the lines that are asked for are there
abbrev pub HasPiece : LineRange → List ℕ → Type 0
HasPiece range trace = (first rows : ℕ) × IsPiece range (line_count trace) first rows

-- or they are not
abbrev pub RefusesPiece : LineRange → List ℕ → Type 0
RefusesPiece range trace = (fault : PieceFault) × IsNoPiece range (line_count trace) fault

-- What comes of the trace of a run: these lines are drawn, or the reason why not is answered.
abbrev pub DrawsPiece : {A : Type 0} → LineRange → List ℕ → Result A (Unmade PieceFault) → Type 0
DrawsPiece range trace (Ok drawing) = HasPiece range trace
DrawsPiece range trace (Err fault) = RefusesMaking (IsNoPiece range (line_count trace)) fault

-- Why lines are not drawn that are there.
abbrev pub IsUndrawn : LineRange → Undrawn → Type 0
IsUndrawn range Memory = ⊤
IsUndrawn range (Piece fault) = (lines : ℕ) → IsNoPiece range lines fault
