-- The limits of the commands.
use Rattle.std.specs.Prelude.{ℕ}

-- the longest input, in bytes
abbrev pub input_limit : ℕ
input_limit = 67108864
