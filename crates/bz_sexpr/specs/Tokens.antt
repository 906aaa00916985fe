-- The tokens of a text, with their places: each leaf, and each parenthesis that opens or closes a list.
use Rattle.std.specs.Prelude.{ℕ, ◌+◌, List, [], ◌∷◌, ◌++◌, length, Option, Some, None, ◌==◌, if◌then◌else◌}
use Rattle.bz_sexpr.specs.Data.{Leaf, text, leaf_of, Datum, leaf, items, Data, none, more, max_depth}
use Rattle.bz_sexpr.specs.Pieces.{Piece, blank, comment, opening, closing, quoted, run, spelling}
use Rattle.bz_sexpr.specs.declared.datum.Span.{Span}

pub data Token : Type 0 where
  -- at the place of the parenthesis
  opens : ℕ → Token
  -- up to the place behind the parenthesis
  closes : ℕ → Token
  lone : Leaf → Span → Token

-- The tokens of a datum: a list stands between its two parentheses.
abbrev mutual
  pub listing : Datum → List Token
  listing (leaf l span) = lone l span ∷ []
  listing (items ds span) = opens span.from ∷ (listings ds ++ closes span.to ∷ [])

  pub listings : Data → List Token
  listings none = []
  listings (more d ds) = listing d ++ listings ds

-- The token of a piece that stands at a place: none of a blank or a comment.
abbrev pub token_of : ℕ → Piece → List Token
token_of at (blank b) = []
token_of at (comment c) = []
token_of at opening = opens at ∷ []
token_of at closing = closes (at + 1) ∷ []
token_of at (quoted raw bytes) = lone (text bytes) (record { from = at; to = at + (length raw + 2) }) ∷ []
token_of at (run r) = lone (leaf_of r) (record { from = at; to = at + length r }) ∷ []

-- the tokens of pieces, the first of which stands at a place
abbrev pub tokens : ℕ → List Piece → List Token
tokens at [] = []
tokens at (p ∷ ps) = token_of at p ++ tokens (at + length (spelling p)) ps

-- The places of the parentheses that are still open after the tokens, the innermost first, where
-- these were open before. None where a parenthesis closes nothing or opens a list that is too deep.
abbrev pub unclosed : List ℕ → List Token → Option (List ℕ)
unclosed places [] = Some places
unclosed places (opens at ∷ ts) = if length places == max_depth then None else unclosed (at ∷ places) ts
unclosed [] (closes to ∷ ts) = None
unclosed (at ∷ places) (closes to ∷ ts) = unclosed places ts
unclosed places (lone l span ∷ ts) = unclosed places ts
