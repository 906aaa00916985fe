-- The data that a text spells are in the order of the text.
use Rattle.std.proofs.Common.{◌≡◌, ℕ, ◌+◌, ◌-◌, ◌<◌, ◌≤◌, List, [], ◌∷◌, ◌++◌, length, Result, Ok, Err, IfOk, ap, ◌∙◌, arith, subst, append_assoc, length-append}
use Rattle.std.specs.List.{flat_map}
use Rattle.std.proofs.lemmas.List.{append-nil}
use Rattle.bz_sexpr.specs.Bytes.{quote}
use Rattle.bz_sexpr.specs.Data.{Datum, leaf, items, Data, none, more, span_of}
use Rattle.bz_sexpr.specs.Pieces.{Piece, blank, comment, opening, closing, quoted, run, spelling, spelt, IsPiece, ArePieces}
use Rattle.bz_sexpr.specs.Tokens.{Token, opens, closes, lone, listing, listings, token_of, tokens}
use Rattle.bz_sexpr.specs.Spelling.{Spells}
use Rattle.bz_sexpr.specs.Order.{IsInOrder, AreWithin, AreInOrder}
use Rattle.bz_sexpr.specs.Views.{data_of}
use Rattle.bz_sexpr.specs.declared.error.SexprError.{SexprError}

-- tokens one after another, from one byte up to another
abbrev pub Follow : ℕ → List Token → ℕ → Type 0
Follow at [] end = at ≤ end
Follow at (opens p ∷ ts) end = (at ≤ p) × Follow (p + 1) ts end
Follow at (closes p ∷ ts) end = (at < p) × Follow p ts end
Follow at (lone l span ∷ ts) end = (at ≤ span.from) × (span.from < span.to) × Follow span.to ts end

from_sooner : (ts : List Token) (at later end : ℕ) → at ≤ later → Follow later ts end → Follow at ts end
from_sooner [] at later end le h = omega (arith, h)
from_sooner (opens p ∷ ts) at later end le h = (omega (arith, h.0), h.1)
from_sooner (closes p ∷ ts) at later end le h = (omega (arith, h.0), h.1)
from_sooner (lone l span ∷ ts) at later end le h = (omega (arith, h.0), h.1, h.2)

piece_follows : (p : Piece) (after : List ℕ) (ts : List Token) (at end : ℕ) → IsPiece p after → Follow (at + length (spelling p)) ts end → Follow at (token_of at p ++ ts) end
piece_follows (blank b) after ts at end is h = from_sooner ts at _ end (omega arith) h
piece_follows (comment c) after ts at end is h = from_sooner ts at _ end (omega arith) h
piece_follows opening after ts at end is h = (omega arith, h)
piece_follows closing after ts at end is h = (omega arith, h)
piece_follows (quoted raw bytes) after ts at end is h =
    let same : at + length (spelling (quoted raw bytes)) ≡ at + (length raw + 2) = omega (arith, length-append raw (quote ∷ [])) in
    (omega arith, omega arith, subst (λ n. Follow n ts end) same h)
piece_follows (run r) after ts at end is h = (omega arith, omega (arith, is.0), h)

tokens_follow : (ps : List Piece) (rest : List ℕ) (at : ℕ) → ArePieces ps rest → Follow at (tokens at ps) (at + length (spelt ps))
tokens_follow [] rest at are = omega arith
tokens_follow (p ∷ ps) rest at are =
    let same : at + length (spelling p) + length (spelt ps) ≡ at + length (spelling p ++ spelt ps) = omega (arith, length-append (spelling p) (spelt ps)) in
    piece_follows p (spelt ps ++ rest) (tokens (at + length (spelling p)) ps) at _ are.0
    (subst (Follow (at + length (spelling p)) (tokens (at + length (spelling p)) ps)) same (tokens_follow ps rest (at + length (spelling p)) are.1))

mutual
  datum_in_order : (d : Datum) (r : List Token) (at end : ℕ) → Follow at (listing d ++ r) end → (at ≤ (span_of d).from) × IsInOrder d × Follow (span_of d).to r end
  datum_in_order (leaf l span) r at end h = h
  datum_in_order (items ds span) r at end h =
      let inside = data_in_order ds r (span.from + 1) span.to end (subst (λ ts. Follow (span.from + 1) ts end) (append_assoc (listings ds) (closes span.to ∷ []) r) h.1) in
      (h.0, inside.0, inside.1)

  data_in_order : (ds : Data) (r : List Token) (at close end : ℕ) → Follow at (listings ds ++ closes close ∷ r) end → AreWithin at ds (close - 1) × Follow close r end
  data_in_order none r at close end h = (omega (arith, h.0), h.1)
  data_in_order (more d ds) r at close end h =
      let first = datum_in_order d (listings ds ++ closes close ∷ r) at end (subst (λ ts. Follow at ts end) (append_assoc (listing d) (listings ds) (closes close ∷ r)) h) in
      let others = data_in_order ds r (span_of d).to close end first.2 in
      ((first.0, first.1, others.0), others.1)

all_in_order : (ds : List Datum) (at end : ℕ) → Follow at (flat_map listing ds) end → AreWithin at (data_of ds) end
all_in_order [] at end h = h
all_in_order (d ∷ ds) at end h =
    let first = datum_in_order d (flat_map listing ds) at end h in
    (first.0, first.1, all_in_order ds (span_of d).to end first.2)

spelt_in_order : (whole : List ℕ) (ds : List Datum) → Spells whole ds → AreInOrder ds (length whole)
spelt_in_order whole ds s =
    let b = s.begins_with in
    let end : 0 + length (spelt b.pieces) ≡ length whole = omega (arith, ap length (b.cut ∙ append-nil (spelt b.pieces))) in
    all_in_order ds 0 (length whole) (subst (λ ts. Follow 0 ts (length whole)) b.listed (subst (Follow 0 (tokens 0 b.pieces)) end (tokens_follow b.pieces [] 0 b.each)))

pub answered_in_order : {A : Type 0} (seen : A → List Datum) (whole : List ℕ) (r : Result A SexprError) → IfOk r (λ v. Spells whole (seen v)) → IfOk r (λ v. AreInOrder (seen v) (length whole))
answered_in_order seen whole (Ok v) s = spelt_in_order whole (seen v) s
answered_in_order seen whole (Err e) s = tt
