-- How what passes at a port is spelt, item by item.
use Rattle.std.specs.Prelude.{◌≡◌, ◌≢◌, ◌⊎◌, ℕ, List, [], ◌∷◌, ◌++◌}
use Rattle.bz_bench.specs.declared.items.Times.{Times}
use Rattle.bz_bench.specs.declared.items.Times.TheVariants.{Count, Always}
use Rattle.bz_bench.specs.declared.items.Word.{Word}
use Rattle.bz_bench.specs.declared.items.Word.TheVariants as word
use Rattle.bz_bench.specs.declared.stream.Item.{Item}
use Rattle.bz_bench.specs.declared.stream.Item.TheVariants.{Handshake, Value, Any}
use Rattle.bz_model.specs.Limits.{max_width}
use Rattle.bz_words.specs.Words.{IsNumber}

abbrev pub star : ℕ
star = 42

abbrev pub dot : ℕ
dot = 46

abbrev pub greater : ℕ
greater = 62

abbrev pub question : ℕ
question = 63

abbrev pub at_sign : ℕ
at_sign = 64

-- an item: `.`, `?`, or a value in decimal digits
abbrev pub IsItem : List ℕ → Item → Type 0
IsItem text Handshake = text ≡ dot ∷ []
IsItem text Any = text ≡ question ∷ []
IsItem text (Value v) = IsNumber max_width text v

-- how often it passes, by what follows it: nothing for once, `*N` for N times, `*` for as often as it is asked for
abbrev pub AreTimes : List ℕ → Times → Type 0
AreTimes text (Count n) = ((text ≡ []) × (n ≡ 1)) ⊎ ((digits : List ℕ) × (text ≡ star ∷ digits) × IsNumber 32 digits n)
AreTimes text Always = text ≡ star ∷ []

-- What a word of a port's line means: an item so often, a handshake that need not end, or the items of a file.
pub data Meaning : Type 0 where
  items : Item → Times → Meaning
  begun : Meaning
  file : List ℕ → Meaning

abbrev pub meaning_of : Word → Meaning
meaning_of (word.Items item times) = items item times
meaning_of word.Open = begun
meaning_of (word.File path) = file path.now

abbrev pub Means : List ℕ → Meaning → Type 0
Means text (items item times) = (spelt behind : List ℕ) × (text ≡ spelt ++ behind) × IsItem spelt item × AreTimes behind times
Means text begun = text ≡ greater ∷ []
Means text (file path) = (text ≡ at_sign ∷ path) × (path ≢ [])
