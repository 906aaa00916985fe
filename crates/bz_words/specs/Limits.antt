-- The limits of words.
use Rattle.std.specs.Prelude.{ℕ}

-- the most sessions that words may open
abbrev pub max_sessions : ℕ
max_sessions = 16
