-- How a text stands in a page, and how it is read back there.
use Rattle.std.specs.Prelude.{ℕ, ◌+◌, ◌-◌, ◌*◌, ◌/◌, ◌%◌, ◌==◌, ◌&&◌, ◌||◌, not, nat_le, Bool, List, [], ◌∷◌, if◌then◌else◌}
use Rattle.std.specs.List.{flat_map}
use Rattle.bz_model.specs.Traces.{hex_digit}

-- a line feed stands for itself, and so do bytes 32 to 126 but `<` and `%`
unfoldable pub is_kept : ℕ → Bool
is_kept b = (b == 10) || (nat_le 32 b && nat_le b 126 && not (b == 60) && not (b == 37))

-- every other byte is `%` and two upper-case hexadecimal digits
unfoldable pub escaped_byte : ℕ → List ℕ
escaped_byte b = if is_kept b then b ∷ [] else 37 ∷ hex_digit (b / 16) ∷ hex_digit (b % 16) ∷ []

abbrev pub escaped : List ℕ → List ℕ
escaped text = flat_map escaped_byte text

-- the digits 0 to 9 and A to F, and what they are worth
unfoldable pub is_digit : ℕ → Bool
is_digit c = nat_le 48 c && nat_le c 57 || nat_le 65 c && nat_le c 70

unfoldable pub digit_value : ℕ → ℕ
digit_value c = if nat_le c 57 then c - 48 else c - 55

-- how the page reads a text: `%` and two digits are the byte of that number, everything else is itself
abbrev pub unescaped : List ℕ → List ℕ
unescaped [] = []
unescaped (a ∷ []) = a ∷ []
unescaped (a ∷ b ∷ []) = a ∷ b ∷ []
unescaped (a ∷ b ∷ c ∷ rest) =
    if (a == 37) && is_digit b && is_digit c then (digit_value b * 16 + digit_value c) ∷ unescaped rest else a ∷ unescaped (b ∷ c ∷ rest)
