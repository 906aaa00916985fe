-- What notes look like.
use Rattle.std.specs.Prelude.{ℕ, List, [], ◌++◌, Option, None, Some, Result, codes, map, nat_le, ◌&&◌, if◌then◌else◌}
use Rattle.std.specs.List.{flat_map}
use Rattle.bz_text.specs.Writing.{Writes}

-- a letter as it is shown: one that isn't printable is a question mark
abbrev pub shown : ℕ → ℕ
shown byte = if nat_le 32 byte && nat_le byte 126 then byte else 63

-- the letters of a note, of which none may be lost
abbrev pub letters_of : Option (List ℕ) → List ℕ
letters_of None = []
letters_of (Some letters) = letters

abbrev pub note_line : List ℕ → List ℕ
note_line note = codes "breezesim: note: " ++ (map shown note ++ codes "\n")

-- notes and nothing else go to a writer, or a front of them where it fails
abbrev pub HasNotes : {A E : Type 0} → Option (List ℕ) → Option (List ℕ) → Result A E → Type 0
HasNotes old new result = (notes : List (List ℕ)) × Writes old new result (flat_map note_line notes)
