-- Where in its line a byte of a text stands.
use Rattle.std.specs.Prelude.{ℕ, Bool, ◌+◌, ◌==◌, List, not, take}
use Rattle.std.specs.List.{suffix_len}

abbrev pub within_line : ℕ → Bool
within_line byte = not (byte == 10)

-- the column in which a byte stands, from 1: behind as many bytes of its line as there are in front of it
abbrev pub column_at : List ℕ → ℕ → ℕ
column_at text byte = suffix_len within_line (take byte text) + 1
