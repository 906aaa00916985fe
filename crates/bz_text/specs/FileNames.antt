-- The name of a file, as lines show it.
use Rattle.std.specs.Prelude.{ℕ, ◌==◌, ◌||◌, List, [], ◌∷◌, nat_lt, if◌then◌else◌}
use Rattle.std.specs.List.{flat_map}

-- a control character is a question mark, so that no name ends a line or moves what a terminal shows
abbrev pub file_byte : ℕ → List ℕ
file_byte b = if nat_lt b 32 || b == 127 then 63 ∷ [] else b ∷ []

abbrev pub file_text : List ℕ → List ℕ
file_text name = flat_map file_byte name
