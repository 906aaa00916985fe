-- The line and the component that are asked for, or why they are not there.
use Rattle.std.specs.Prelude.{◌≡◌, ℕ, ◌<◌, ◌≤◌, Some, unwrap_or, IfSome}
use Rattle.bz_cli_waits.specs.declared.asked.WaitsAsked.{WaitsAsked}
use Rattle.bz_cli_waits.specs.declared.asked.WaitsFault.{WaitsFault}
use Rattle.bz_cli_waits.specs.declared.asked.WaitsFault.TheVariants.{NoLine, NoComp}

-- the last line where none is named
abbrev pub line_asked : WaitsAsked → ℕ → ℕ
line_asked asked lines = unwrap_or asked.line lines

-- one of so many, counted from 1
abbrev pub IsOf : ℕ → ℕ → Type 0
IsOf most n = (0 < n) × (n ≤ most)

-- This is the line that is asked for, of so many; it is there, and so is the component.
pub record IsLine (asked : WaitsAsked) (lines comps line : ℕ) : Type 0 where
  pub line_is : line ≡ line_asked asked lines
  pub there : IsOf lines line
  pub comp : IfSome asked.comp (IsOf comps)

-- Why they are not. Of the line it is told first.
abbrev pub IsNone : WaitsAsked → ℕ → ℕ → WaitsFault → Type 0
IsNone asked lines comps (NoLine line n) = (line ≡ line_asked asked lines) × (n ≡ lines) × (IsOf lines line → ⊥)
IsNone asked lines comps (NoComp comp n) = IsOf lines (line_asked asked lines) × (asked.comp ≡ Some comp) × (n ≡ comps) × (IsOf comps comp → ⊥)
