-- Which lines of a trace are drawn, or why none are.
use Rattle.std.specs.Prelude.{◌≡◌, ℕ, false, true, ◌⊎◌, ◌+◌, ◌-◌, ◌<◌, ◌≤◌, List, Some, None, IsSome, unwrap_or, max}
use Rattle.bz_chart.specs.declared.range.LineRange.{LineRange}
use Rattle.bz_chart.specs.declared.range.PieceFault.{PieceFault}
use Rattle.bz_chart.specs.declared.range.PieceFault.TheVariants.{Above, NoLast, NoFirst, TooLong, NoPick, TooMany}

-- the first line that is asked for, never the one that names the version
abbrev pub first_asked : LineRange → ℕ
first_asked range = max (unwrap_or range.from 2) 2

-- the last one, of a trace of so many lines
abbrev pub last_asked : LineRange → ℕ → ℕ
last_asked range lines = unwrap_or range.to lines

abbrev pub rows_asked : LineRange → ℕ → ℕ
rows_asked range lines = last_asked range lines + 1 - first_asked range

-- so many rows, from this line on, are those that are asked for: all of them are there, a chart holds them unless only some are shown,
-- and where a first or a last one is named there is one at least
pub record IsPiece (range : LineRange) (lines first rows : ℕ) : Type 0 where
  pub first_is : first ≡ first_asked range
  pub rows_are : rows ≡ rows_asked range lines
  pub there : last_asked range lines ≤ lines
  pub few : range.picks ≡ false → rows ≤ 2000
  pub some : IsSome range.from ⊎ IsSome range.to → 0 < rows

-- Why they are not drawn; which words name nothing, and which lines are shown, is not said. A trace without any line but its first has no rows, and is drawn where none is asked for.
abbrev pub IsNoPiece : LineRange → ℕ → PieceFault → Type 0
IsNoPiece range lines (Above from to) = (range.to ≡ Some to) × (from ≡ first_asked range) × (to < from)
IsNoPiece range lines (NoLast to n) = (range.to ≡ Some to) × (n ≡ lines) × (first_asked range ≤ to) × (lines < to)
IsNoPiece range lines (NoFirst from n) = (range.to ≡ None) × IsSome range.from × (from ≡ first_asked range) × (n ≡ lines) × (lines < from)
IsNoPiece range lines (TooLong from to n) = (from ≡ first_asked range) × (to ≡ last_asked range lines) × (n ≡ lines) × (to ≤ lines) × (2000 < rows_asked range lines) × (range.picks ≡ false)
IsNoPiece range lines (NoPick word) = range.picks ≡ true
IsNoPiece range lines (TooMany rows) = (range.picks ≡ true) × (2000 < rows)
