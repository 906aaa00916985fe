-- How far a name is from another one.
use Rattle.std.specs.Prelude.{ℕ, List, length, map, nat_eq}
use Rattle.std.specs.Char.{to_ascii_lowercase}
use Rattle.strsim.specs.Edits.{levenshtein_row}

-- the least number of letters put in, left out or changed on the way from one to the other, by the table of such numbers
abbrev pub distance : List ℕ → List ℕ → ℕ
distance from to = levenshtein_row nat_eq from to (length to)

-- the same without regard to case
abbrev pub edits : List ℕ → List ℕ → ℕ
edits from to = distance (map to_ascii_lowercase from) (map to_ascii_lowercase to)
