-- Numbers that are spelled once.
use Rattle.std.specs.Prelude.{◌≡◌, ◌<◌, ◌+◌, ◌++◌, ℕ, List, take, length, get_or, codes, decimal}
use Rattle.bz_trace_text.specs.declared.numeral.Numeral.{Numeral}

-- a numeral spells a number, with a line feed behind
abbrev pub Spells : Numeral → ℕ → Type 0
Spells numeral n = take (get_or numeral.bytes 7 0 + 1) numeral.bytes ≡ decimal n ++ codes "\n"

-- each number from 0 on has its numeral in its place
abbrev pub AreSpelled : List Numeral → Type 0
AreSpelled numerals = (n : ℕ) (none : Numeral) → n < length numerals → Spells (get_or numerals n none) n
