-- How much of the input is read.
use Rattle.std.specs.Prelude.{ℕ, ◌+◌, ◌≤◌, List, length, Option}
use Rattle.std.specs.Io.KnownBytes.{Consumes}
use Rattle.bz_cli_input.specs.Limits.{input_limit}

-- no more than the limit and one byte
abbrev pub ReadsWithin : Option (List ℕ) → Option (List ℕ) → Type 0
ReadsWithin old new = (bs : List ℕ) × (length bs ≤ input_limit + 1) × Consumes old new bs
