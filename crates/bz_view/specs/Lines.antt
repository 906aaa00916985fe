-- Lines, of which the front is told.
use Rattle.std.specs.Prelude.{◌≡◌, ℕ, ◌≤◌, ◌==◌, Bool, true, false, not, List, [], ◌∷◌, ◌++◌, codes}
use Rattle.std.specs.List.{list_any, repeat}
use Rattle.bz_text.specs.declared.pieces.Piece.{Piece}
use Rattle.bz_text.specs.declared.pieces.Piece.TheVariants.{Bytes, Number, Value, Name}

-- any text without a line feed
abbrev pub InLine : List ℕ → Type 0
InLine text = list_any (λ b. b == 10) text ≡ false

-- two blanks or more
abbrev pub AreBlanks : List ℕ → Type 0
AreBlanks text = (n : ℕ) × (2 ≤ n) × (text ≡ repeat n (codes " "))

-- a line that begins so, and whatever it tells behind two blanks
abbrev pub IsLine : List ℕ → List ℕ → Type 0
IsLine front line = (rest : List ℕ) × InLine rest × (line ≡ front ++ (codes "  " ++ (rest ++ codes "\n")))

-- a text of each of these, one behind the other
abbrev pub InTurn : {X : Type 0} → (X → List ℕ → Type 0) → List X → List ℕ → Type 0
InTurn may_be [] text = text ≡ []
InTurn may_be (x ∷ xs) text = (first rest : List ℕ) × may_be x first × InTurn may_be xs rest × (text ≡ first ++ rest)

-- whether a piece is bytes without a line feed, a number, a value or a name, of which none has one
abbrev pub stays_in_line : Piece → Bool
stays_in_line (Bytes bytes) = not (list_any (λ b. b == 10) bytes.now)
stays_in_line (Number n) = true
stays_in_line (Value value) = true
stays_in_line (Name name) = true
stays_in_line other = false
