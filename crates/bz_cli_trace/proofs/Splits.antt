-- Where a trace begins in a text.
use Rattle.std.proofs.Common.{◌≡◌, ◌⊎◌, inl, inr, ℕ, zero, suc, ◌<◌, ◌≤◌, Bool, true, false, MatchBool, Some, None, List, [], ◌∷◌, length, take, drop, length-drop, ◌-◌, refl, sym, ap, subst, ◌∙◌, arith}
use Rattle.bz_trace_text.specs.declared.text.Version.TheVariants.{One, Two}
use Rattle.bz_trace_text.specs.Reading.{strip}
use Rattle.bz_trace_text.proofs.Cuts.{same_first_rest}
use Rattle.bz_trace_text.proofs.Strips.{none-some, strip_again, strip_takes}
use Rattle.bz_cli_trace.specs.Splitting.{BeginsTrace, BeginsWith, EndsLine, IsTraceAt, version_words}

pub match_as : {A B : Type 0} → (r : Bool) → (A → B) → (B → A) → MatchBool r A (A → ⊥) → MatchBool r B (B → ⊥)
match_as true there back m = there m
match_as false there back m = λ b. m (back b)

pub no_front : (words text : List ℕ) → strip words text ≡ None → BeginsWith words text → ⊥
no_front words text none (rest, is, ends) = none-some rest (sym none ∙ ap (strip words) is ∙ strip_again words rest)

pub with_front : (words text rest : List ℕ) (r : Bool) → strip words text ≡ Some rest → MatchBool r (EndsLine rest) (EndsLine rest → ⊥) → MatchBool r (BeginsWith words text) (BeginsWith words text → ⊥)
with_front words text rest r found ends =
    let is = strip_takes words text rest found in
    match_as r (λ e. (rest, is, e)) (λ b. subst EndsLine (same_first_rest words b.0 rest (sym b.1 ∙ is)) b.2) ends

pub no_version : (text : List ℕ) → (BeginsWith (version_words One) text → ⊥) → (BeginsWith (version_words Two) text → ⊥) → BeginsTrace text → ⊥
no_version text a b (One, begins) = a begins
no_version text a b (Two, begins) = b begins

pub second_version : (text : List ℕ) (r : Bool) → (BeginsWith (version_words One) text → ⊥) → MatchBool r (BeginsWith (version_words Two) text) (BeginsWith (version_words Two) text → ⊥) → MatchBool r (BeginsTrace text) (BeginsTrace text → ⊥)
second_version text true none m = (Two, m)
second_version text false none m = no_version text none m

below : (a b : ℕ) → (a < b) ⊎ (b ≤ a)
below zero zero = inr (omega arith)
below zero (suc b) = inl (omega arith)
below (suc a) zero = inr (omega arith)
below (suc a) (suc b) = elim (below a b) [ inl h ↦ inl (omega arith) | inr h ↦ inr (omega arith) ]

pub not_before : (text : List ℕ) (place other : ℕ) → ((k : ℕ) → k < place → IsTraceAt text k → ⊥) → IsTraceAt text other → place ≤ other
not_before text place other none at = elim (below other place) [ inl lt ↦ absurd (none other lt at) | inr le ↦ le ]

pub one_more : (text : List ℕ) (place other : ℕ) → ((k : ℕ) → k < place → IsTraceAt text k → ⊥) → (IsTraceAt text place → ⊥) → other < suc place → IsTraceAt text other → ⊥
one_more text place other none here lt at = elim (below other place) [ inl earlier ↦ none other earlier at | inr le ↦ here (subst (IsTraceAt text) (last other place lt le) at) ]
  where
    last : (a b : ℕ) → a < suc b → b ≤ a → a ≡ b
    last a b lt le = omega arith

whole_take : (xs : List ℕ) (i : ℕ) → length xs ≤ i → take i xs ≡ xs
whole_take [] zero le = refl
whole_take [] (suc i) le = refl
whole_take (x ∷ xs) zero le = absurd (omega arith)
whole_take (x ∷ xs) (suc i) le = ap (λ l. x ∷ l) (whole_take xs i (omega arith))

pub rest_is : (text : List ℕ) (place : ℕ) → take (length text - place) (drop place text) ≡ drop place text
rest_is text place = whole_take (drop place text) (length text - place) (omega (arith, length-drop place text))
