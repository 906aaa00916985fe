-- How a text is cut into pieces: blanks, comments, parentheses, texts in quotes, and runs.
use Rattle.std.specs.Prelude.{◌≡◌, ◌≢◌, ℕ, ◌<◌, List, [], ◌∷◌, ◌++◌, length, Bool, false, IsTrue, ⊤}
use Rattle.std.specs.List.{AllPass}
use Rattle.bz_sexpr.specs.Bytes.{quote, semicolon, open_paren, close_paren, backslash, is_blank, is_run_byte, is_within_line, kept}

pub data Piece : Type 0 where
  blank : ℕ → Piece
  -- what stands behind the semicolon
  comment : List ℕ → Piece
  opening : Piece
  closing : Piece
  -- what stands between the quotes, and the bytes that it stands for
  quoted : List ℕ → List ℕ → Piece
  run : List ℕ → Piece

abbrev pub spelling : Piece → List ℕ
spelling (blank b) = b ∷ []
spelling (comment c) = semicolon ∷ c
spelling opening = open_paren ∷ []
spelling closing = close_paren ∷ []
spelling (quoted raw bytes) = quote ∷ (raw ++ quote ∷ [])
spelling (run r) = r

abbrev pub spelt : List Piece → List ℕ
spelt [] = []
spelt (p ∷ ps) = spelling p ++ spelt ps

-- What may stand between quotes, and the bytes that it stands for: no bare quote, and a backslash keeps the next byte.
pub data Quotes : List ℕ → List ℕ → Type 0 where
  nothing : Quotes [] []
  byte : {b : ℕ} {raw bytes : List ℕ} → b ≢ quote → b ≢ backslash → Quotes raw bytes → Quotes (b ∷ raw) (b ∷ bytes)
  escape : {a b c : ℕ} {raw bytes : List ℕ} → a ≡ backslash → c ≡ kept b → Quotes raw bytes → Quotes (a ∷ b ∷ raw) (c ∷ bytes)

-- whether the first byte passes
abbrev pub begins : (ℕ → Bool) → List ℕ → Bool
begins p [] = false
begins p (b ∷ bs) = p b

-- The bytes of the front pass, and the rest begins with none that does.
pub record IsLongest (p : ℕ → Bool) (front rest : List ℕ) : Type 0 where
  pub each : AllPass p front
  pub longest : begins p rest ≡ false

-- A piece, where `after` follows it. A comment and a run go on as far as they can, so two runs never touch.
abbrev pub IsPiece : Piece → List ℕ → Type 0
IsPiece (blank b) after = IsTrue (is_blank b)
IsPiece (comment c) after = IsLongest is_within_line c after
IsPiece opening after = ⊤
IsPiece closing after = ⊤
IsPiece (quoted raw bytes) after = Quotes raw bytes
IsPiece (run r) after = (0 < length r) × IsLongest is_run_byte r after

-- Each is a piece, where the next ones and then `rest` follow it.
abbrev pub ArePieces : List Piece → List ℕ → Type 0
ArePieces [] rest = ⊤
ArePieces (p ∷ ps) rest = IsPiece p (spelt ps ++ rest) × ArePieces ps rest
