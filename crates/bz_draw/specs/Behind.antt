-- What the command `draw` makes of the trace of a run: a graph of the net behind a line of it.
use Rattle.std.specs.Prelude.{◌≡◌, ℕ, ◌<◌, ◌≤◌, List, Option, Result, Ok, Err, unwrap_or}
use Rattle.std.specs.declared.alloc.Global.{Global}
use Rattle.std.specs.declared.vec.Vec.{Vec}
use Rattle.bz_cli_trace.specs.declared.unmade.Unmade.{Unmade}
use Rattle.bz_cli_trace.specs.Making.{RefusesMaking}
use Rattle.bz_draw.specs.declared.fault.NoMoment.{NoMoment}
use Rattle.bz_draw.specs.declared.fault.NoMoment.TheVariants.{NoLine, Undrawn}
use Rattle.bz_draw.specs.Drawing.{IsWhole}
use Rattle.bz_trace_text.specs.Counting.{line_count}

-- one of so many, counted from 1
abbrev pub IsOf : ℕ → ℕ → Type 0
IsOf most n = (0 < n) × (n ≤ most)

-- This is the line that is asked for, the last one where none is named, and it is there.
pub record IsLine (asked : Option ℕ) (lines line : ℕ) : Type 0 where
  pub line_is : line ≡ unwrap_or asked lines
  pub there : IsOf lines line

-- it is not there
abbrev pub IsNoLine : Option ℕ → ℕ → NoMoment → Type 0
IsNoLine asked lines (NoLine line n) = (line ≡ unwrap_or asked lines) × (n ≡ lines) × (IsOf lines line → ⊥)
IsNoLine asked lines (Undrawn why) = ⊥

-- Why a line of a trace is not drawn. Of a line that is there it is not said why there is no such drawing.
abbrev pub IsUndrawn : Option ℕ → ℕ → NoMoment → Type 0
IsUndrawn asked lines (NoLine line n) = IsNoLine asked lines (NoLine line n)
IsUndrawn asked lines (Undrawn why) = (line : ℕ) × IsLine asked lines line

abbrev pub HasLine : Option ℕ → List ℕ → Type 0
HasLine asked trace = (line : ℕ) × IsLine asked (line_count trace) line

-- What comes of the trace of a run: a graph, of a line that is there, or the reason why not is answered.
abbrev pub DrawsLine : Option ℕ → List ℕ → Result (Vec ℕ Global) (Unmade NoMoment) → Type 0
DrawsLine asked trace (Ok graph) = HasLine asked trace × IsWhole graph.items
DrawsLine asked trace (Err fault) = RefusesMaking (IsUndrawn asked (line_count trace)) fault
