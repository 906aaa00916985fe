-- The text of a short trace: a line for each move, `ask K`, `ask K V`, `reply K` or `reply K V`.
use Rattle.std.specs.Prelude.{◌≡◌, ◌≢◌, ◌⊎◌, ℕ, suc, ◌<◌, ◌^◌, Option, Some, None, List, [], ◌∷◌, ◌++◌, length, codes}
use Rattle.std.specs.Str.Parse.{IsNumeral, digits_value}
use Rattle.bz_model.specs.Limits.{max_width}
use Rattle.bz_complete.specs.Named.{ChanTable, IsNamed}
use Rattle.bz_complete.specs.declared.short.Sent.{Sent}
use Rattle.bz_complete.specs.declared.short.Sent.TheVariants.{Ask, Reply}
use Rattle.bz_complete.specs.declared.short.ShortMove.{ShortMove}

abbrev pub space : ℕ
space = 32

abbrev pub line_end : ℕ
line_end = 10

abbrev pub sent_text : Sent → List ℕ
sent_text Ask = codes "ask"
sent_text Reply = codes "reply"

-- decimal digits, one or more, of this number; zeros may lead
abbrev pub IsNumber : List ℕ → ℕ → Type 0
IsNumber digits n = IsNumeral 10 digits × (n ≡ digits_value 10 digits)

-- a word of digits is the number of a channel, and another one a name
abbrev pub Stands : ChanTable → List ℕ → ℕ → Type 0
Stands names word chan = IsNumber word chan ⊎ ((IsNumeral 10 word → ⊥) × IsNamed names word chan)

-- what stands behind the first word: a channel, or a channel and a value
abbrev pub AreOperands : ChanTable → List ℕ → ℕ → Option ℕ → Type 0
AreOperands names text chan None = Stands names text chan
AreOperands names text chan (Some v) =
    (word digits : List ℕ) × (text ≡ word ++ space ∷ digits) × Stands names word chan × IsNumber digits v × (v < 2 ^ max_width)

-- the line of a move, without its end
abbrev pub IsLine : ChanTable → List ℕ → ShortMove → Type 0
IsLine names line m =
    (operands : List ℕ) × (line ≡ sent_text m.sent ++ space ∷ operands) × AreOperands names operands m.chan m.value

-- the line of a move stands at the front of a text, and this follows it
abbrev pub BeginsWith : ChanTable → List ℕ → ShortMove → List ℕ → Type 0
BeginsWith names text m rest = (line : List ℕ) × (text ≡ line ++ line_end ∷ rest) × IsLine names line m

-- a text of such lines, and nothing else
abbrev pub Spells : ChanTable → List ℕ → List ShortMove → Type 0
Spells names text [] = text ≡ []
Spells names text (m ∷ ms) = (rest : List ℕ) × BeginsWith names text m rest × Spells names rest ms

-- The lines before this one, counted from 1, spell moves, and there is more.
abbrev pub GoesTo : ChanTable → List ℕ → ℕ → Type 0
GoesTo names text line =
    (front rest : List ℕ) × (moves : List ShortMove) × (text ≡ front ++ rest) × (rest ≢ []) × Spells names front moves × (line ≡ suc (length moves))
