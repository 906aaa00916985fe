-- The limits of values and traces.
use Rattle.std.specs.Prelude.{ℕ}

-- the most bits of a value
abbrev pub max_width : ℕ
max_width = 128

-- the most entries of a trace
abbrev pub max_entries : ℕ
max_entries = 16777216
