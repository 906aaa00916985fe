-- What a call adds to a text that keeps its fault: none where a part of the text is lost.
use Rattle.std.specs.Prelude.{◌≡◌, ℕ, List, ◌++◌, Option, None, Some, ⊤}

-- these bytes stand behind the old ones, or a part is lost; what is lost once is never made good
abbrev pub Grows : Option (List ℕ) → Option (List ℕ) → List ℕ → Type 0
Grows old None bytes = ⊤
Grows (Some xs) (Some ys) bytes = ys ≡ xs ++ bytes
Grows None (Some ys) bytes = ⊥

-- the same of one of the texts that may be added
abbrev pub GrowsBy : (List ℕ → Type 0) → Option (List ℕ) → Option (List ℕ) → Type 0
GrowsBy may_be old new = (bytes : List ℕ) × may_be bytes × Grows old new bytes
