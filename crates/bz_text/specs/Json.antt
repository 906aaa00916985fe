-- Texts as JSON has them.
use Rattle.std.specs.Prelude.{◌≡◌, ◌≢◌, ℕ, ◌<◌, ◌≤◌, ◌+◌, ◌*◌, ◌/◌, ◌%◌, ◌==◌, ◌||◌, List, [], ◌∷◌, ◌++◌, nat_lt, if◌then◌else◌}
use Rattle.std.specs.List.{flat_map}
use Rattle.bz_model.specs.Traces.{hex_digit}

-- in a string: a quote and a backslash behind a backslash, a control character by its number, all else as it is
abbrev pub json_byte : ℕ → List ℕ
json_byte b =
    if b == 34 || b == 92 then 92 ∷ b ∷ []
    else (if nat_lt b 32 then 92 ∷ 117 ∷ 48 ∷ 48 ∷ hex_digit (b / 16) ∷ hex_digit (b % 16) ∷ []
    else b ∷ [])

abbrev pub json_inside : List ℕ → List ℕ
json_inside bytes = flat_map json_byte bytes

abbrev pub json_text : List ℕ → List ℕ
json_text bytes = 34 ∷ (json_inside bytes ++ 34 ∷ [])

-- How JSON reads what stands between quotes: no quote and no control character as it is, and of a number only what is one byte.
pub data Reads : List ℕ → List ℕ → Type 0 where
  nothing : Reads [] []
  itself : {b : ℕ} {inside text : List ℕ} → 32 ≤ b → b ≢ 34 → b ≢ 92 → Reads inside text → Reads (b ∷ inside) (b ∷ text)
  quote : {inside text : List ℕ} → Reads inside text → Reads (92 ∷ 34 ∷ inside) (34 ∷ text)
  backslash : {inside text : List ℕ} → Reads inside text → Reads (92 ∷ 92 ∷ inside) (92 ∷ text)
  number : {h l : ℕ} {inside text : List ℕ} → h < 8 → l < 16 → Reads inside text
      → Reads (92 ∷ 117 ∷ 48 ∷ 48 ∷ hex_digit h ∷ hex_digit l ∷ inside) ((h * 16 + l) ∷ text)

-- as this text, and as no other
abbrev pub ReadsAs : List ℕ → List ℕ → Type 0
ReadsAs inside text = Reads inside text × ((other : List ℕ) → Reads inside other → other ≡ text)
