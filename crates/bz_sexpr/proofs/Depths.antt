-- Lists are deep in data exactly where too many parentheses are open in their tokens.
use Rattle.std.proofs.Common.{◌≡◌, ◌≢◌, ℕ, suc, ◌+◌, ◌≤◌, List, [], ◌∷◌, ◌++◌, length, Bool, true, false, cond, ◌==◌, Option, Some, None, refl, sym, ap, ◌∙◌, arith, append_assoc}
use Rattle.std.specs.List.{All, flat_map}
use Rattle.std.proofs.lemmas.List.Elements.{All-nil, All-cons}
use Rattle.std.proofs.lemmas.Bool.{ne_eqb, eqb-false}
use Rattle.bz_sexpr.specs.Data.{Datum, leaf, items, Data, none, more, depth, deepest, max_depth}
use Rattle.bz_sexpr.specs.Tokens.{Token, closes, listing, listings, unclosed}

-- ---- data that are not too deep close what they open

mutual
  pub unclosed-listing : (d : Datum) (places : List ℕ) (ts : List Token) → length places + depth d ≤ max_depth → unclosed places (listing d ++ ts) ≡ unclosed places ts
  unclosed-listing (leaf l span) places ts fits = refl
  unclosed-listing (items ds span) places ts fits =
      let inside = unclosed-listings ds (span.from ∷ places) (closes span.to ∷ ts) (omega (arith, fits)) in
      let room : (length places == max_depth) ≡ false = ne_eqb _ _ (λ e. omega (arith, e, fits)) in
      ap (λ b. cond b None (unclosed (span.from ∷ places) ((listings ds ++ closes span.to ∷ []) ++ ts))) room
      ∙ ap (unclosed (span.from ∷ places)) (append_assoc (listings ds) (closes span.to ∷ []) ts) ∙ inside

  pub unclosed-listings : (ds : Data) (places : List ℕ) (ts : List Token) → length places + deepest ds ≤ max_depth → unclosed places (listings ds ++ ts) ≡ unclosed places ts
  unclosed-listings none places ts fits = refl
  unclosed-listings (more d ds) places ts fits =
      ap (unclosed places) (append_assoc (listing d) (listings ds) ts) ∙ unclosed-listing d places (listings ds ++ ts) (omega (arith, fits)) ∙ unclosed-listings ds places ts (omega (arith, fits))

pub unclosed-data : (ds : List Datum) → All (λ d. depth d ≤ max_depth) ds → unclosed [] (flat_map listing ds) ≡ Some []
unclosed-data [] shallow = refl
unclosed-data (d ∷ ds) shallow =
    unclosed-listing d [] (flat_map listing ds) (omega (arith, shallow 0 d (omega arith))) ∙ unclosed-data ds (λ k e h. shallow (suc k) e (omega arith))

-- ---- and where all is closed, no data are too deep

opened : (b : Bool) {next : Option (List ℕ)} {after : List ℕ} → cond b None next ≡ Some after → (b ≡ false) × (next ≡ Some after)
opened true e = absurd cc
opened false e = (refl, e)

mutual
  depth_fits : (d : Datum) (places after : List ℕ) (ts : List Token) → length places ≤ max_depth → unclosed places (listing d ++ ts) ≡ Some after → length places + depth d ≤ max_depth
  depth_fits (leaf l span) places after ts fits e = omega (arith, fits)
  depth_fits (items ds span) places after ts fits e =
      let first = opened (length places == max_depth) e in
      let more_room : length places ≢ max_depth = eqb-false _ _ first.0 in
      let inside : unclosed (span.from ∷ places) (listings ds ++ closes span.to ∷ ts) ≡ Some after = ap (unclosed (span.from ∷ places)) (sym (append_assoc (listings ds) (closes span.to ∷ []) ts)) ∙ first.1 in
      omega (arith, deepest_fits ds (span.from ∷ places) after (closes span.to ∷ ts) (omega (arith, fits, more_room)) inside)

  deepest_fits : (ds : Data) (places after : List ℕ) (ts : List Token) → length places ≤ max_depth → unclosed places (listings ds ++ ts) ≡ Some after → length places + deepest ds ≤ max_depth
  deepest_fits none places after ts fits e = omega (arith, fits)
  deepest_fits (more d ds) places after ts fits e =
      let all : unclosed places (listing d ++ (listings ds ++ ts)) ≡ Some after = ap (unclosed places) (sym (append_assoc (listing d) (listings ds) ts)) ∙ e in
      let first = depth_fits d places after (listings ds ++ ts) fits all in
      let others = deepest_fits ds places after ts fits (sym (unclosed-listing d places (listings ds ++ ts) first) ∙ all) in
      omega (arith, first, others)

pub shallow_data : (ds : List Datum) → unclosed [] (flat_map listing ds) ≡ Some [] → All (λ d. depth d ≤ max_depth) ds
shallow_data [] e = All-nil _
shallow_data (d ∷ ds) e =
    let first = depth_fits d [] [] (flat_map listing ds) (omega arith) e in
    All-cons (λ d. depth d ≤ max_depth) d ds (omega (arith, first)) (shallow_data ds (sym (unclosed-listing d [] (flat_map listing ds) first) ∙ e))
