-- What a form says, in which each `%` stands for a text.
use Rattle.std.specs.Prelude.{◌≡◌, ℕ, suc, ◌-◌, ◌==◌, List, [], ◌∷◌, ◌++◌, Option, None, Some, codes, decimal, max, min, reverse, take, if◌then◌else◌}
use Rattle.std.specs.List.{AllZip, position_or_len, repeat}

-- each `%` is the next of the texts, and every other byte is itself; where there is no text more, each is itself
abbrev pub said : List ℕ → List (List ℕ) → List ℕ
said [] texts = []
said (b ∷ form) [] = b ∷ form
said (b ∷ form) (t ∷ texts) = if b == 37 then t ++ said form texts else b ∷ said form (t ∷ texts)

-- how many there are
abbrev pub marks : List ℕ → ℕ
marks [] = 0
marks (b ∷ form) = if b == 37 then suc (marks form) else marks form

-- a form says a text of each piece for which it has a mark
unfoldable pub Says : {X : Type 0} → (X → List ℕ → Type 0) → List ℕ → List X → List ℕ → Type 0
Says adds form pieces bytes = (texts : List (List ℕ)) × AllZip adds (take (marks form) pieces) texts × (bytes ≡ said form texts)

-- a number of things
abbrev pub count_text : ℕ → List ℕ → List ℕ
count_text n thing = decimal n ++ codes " " ++ thing ++ (if n == 1 then [] else codes "s")

-- how many bytes stand behind the last line feed
abbrev pub width : List ℕ → ℕ
width text = position_or_len (λ b. b == 10) (reverse text)

-- blanks behind a text, up to a column of its last line: two at least, and 60 at most
abbrev pub blanks_to : ℕ → Option (List ℕ) → List ℕ
blanks_to column None = []
blanks_to column (Some text) = repeat (min 60 (max 2 (column - width text))) (codes " ")
