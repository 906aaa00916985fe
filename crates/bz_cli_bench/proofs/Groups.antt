-- The cases of a bench, and of all benches, one after another.
use Rattle.std.proofs.Common.{◌≡◌, ◌⊎◌, inl, inr, ℕ, zero, suc, ◌+◌, ◌<◌, ◌≤◌, true, Option, Some, None, List, [], ◌∷◌, ◌++◌, map, length, refl, sym, ap, ap₂, subst, ◌∙◌, append_assoc, arith}
use Rattle.std.specs.Prelude.{slice_get}
use Rattle.std.specs.List.{AllByRecursion, flat_map}
use Rattle.std.proofs.lemmas.Bool.{cases_lt}
use Rattle.std.proofs.lemmas.Grind.{common_steps, flat_map-append}
use Rattle.std.proofs.lemmas.List.{append-nil, map-append, length-append}
use Rattle.std.proofs.lemmas.Option.{slice_get_within}
use Rattle.bz_cli_bench.specs.declared.asked.Seeds.{Seeds}
use Rattle.bz_cli_bench.specs.Cases.{AddsCase, AddsGroup, AreOf, CaseSeen, IsGroup, IsPlay, IsRefused, is_unplayed, more_of, seed_at, seeds_from}

-- one round more
seeds_more : (seeds : Seeds) (k n : ℕ) → seeds_from seeds k (suc n) ≡ seeds_from seeds k n ++ seed_at seeds (k + n) ∷ []
seeds_more seeds k zero = let same : k ≡ k + 0 = omega arith in ap (λ j. seed_at seeds j ∷ []) same
seeds_more seeds k (suc n) =
    let same : suc k + n ≡ k + suc n = omega arith in
    ap (λ ss. seed_at seeds k ∷ ss) (seeds_more seeds (suc k) n ∙ ap (λ j. seeds_from seeds (suc k) n ++ seed_at seeds j ∷ []) same)

all_more : (place : ℕ) (group : List CaseSeen) (case : CaseSeen) → AllByRecursion (λ (c : CaseSeen). c.bench ≡ place) group → case.bench ≡ place → AllByRecursion (λ (c : CaseSeen). c.bench ≡ place) (group ++ case ∷ [])
all_more place [] case all is = (is, tt)
all_more place (c ∷ group) case all is = (all.0, all_more place group case all.1 is)

-- Plays of the first round and n more were added.
pub record IsBegun (seeds : Seeds) (place : ℕ) (old new : List CaseSeen) (n : ℕ) : Type 0 where
  pub group : List CaseSeen
  pub added : new ≡ old ++ group
  pub bench : AllByRecursion (λ (case : CaseSeen). case.bench ≡ place) group
  pub plays : map (λ (case : CaseSeen). case.seed) group ≡ seeds_from seeds 0 (suc n)

pub begun : (seeds : Seeds) (place : ℕ) (old new : List CaseSeen) → AddsCase (IsPlay place (seed_at seeds 0)) old new → IsBegun seeds place old new 0
begun seeds place old new (case, added, is) = record {
  group = case ∷ [];
  added = added;
  bench = (is.0, tt);
  plays = ap (λ s. s ∷ []) is.1;
}

pub goes_on : (seeds : Seeds) (place : ℕ) (old now new : List CaseSeen) (n : ℕ) → IsBegun seeds place old now n → AddsCase (IsPlay place (seed_at seeds (n + 1))) now new → IsBegun seeds place old new (n + 1)
goes_on seeds place old now new n is (case, added, play) = record {
  group = is.group ++ case ∷ [];
  added = added ∙ ap (λ cs. cs ++ case ∷ []) is.added ∙ append_assoc old is.group (case ∷ []);
  bench = all_more place is.group case is.bench play.0;
  plays =
      let more : suc (n + 1) ≡ suc (suc n) = omega arith in let at : n + 1 ≡ 0 + suc n = omega arith in
      map-append (λ (c : CaseSeen). c.seed) is.group (case ∷ []) ∙ ap₂ (λ ss s. ss ++ s ∷ []) is.plays (play.1 ∙ ap (seed_at seeds) at)
      ∙ sym (seeds_more seeds 0 (suc n)) ∙ ap (seeds_from seeds 0) (sym more);
}

pub ended : (seeds : Seeds) (place : ℕ) (old new : List CaseSeen) (n : ℕ) → IsBegun seeds place old new n → n ≡ more_of seeds → AddsGroup seeds place old new
ended seeds place old new n is all = (is.group, is.added, record { bench = is.bench; plays = inl (subst (λ k. map (λ (case : CaseSeen). case.seed) is.group ≡ seeds_from seeds 0 (suc k)) all is.plays) })

-- a bench that isn't played
pub refused : (seeds : Seeds) (place : ℕ) (old new : List CaseSeen) (case : CaseSeen) → new ≡ old ++ case ∷ [] → IsRefused place case → AddsGroup seeds place old new
refused seeds place old new case added is = (case ∷ [], added, record { bench = (is.0, tt); plays = inr (case, refl, is.1) })

-- no bench, and one more
pub none_of : (seeds : Seeds) → AreOf seeds 0 []
none_of seeds = ([], refl, refl, λ place group is. absurd (let within = slice_get_within [] place group is in omega (arith, within)))

last_of : {A : Type 0} (xs : List A) (x y : A) (k : ℕ) → slice_get (xs ++ x ∷ []) k ≡ Some y → length xs ≤ k → (k ≡ length xs) × (x ≡ y)
last_of [] x y zero is from = (refl, grind (arith, common_steps, is))
last_of [] x y (suc k) is from = absurd (grind (arith, common_steps, is))
last_of (z ∷ xs) x y zero is from = absurd (omega (arith, from))
last_of (z ∷ xs) x y (suc k) is from = let below = last_of xs x y k is (omega (arith, from)) in (ap suc below.0, below.1)

front_of : {A : Type 0} (xs : List A) (x y : A) (k : ℕ) → slice_get (xs ++ x ∷ []) k ≡ Some y → k < length xs → slice_get xs k ≡ Some y
front_of [] x y k is within = absurd (omega (arith, within))
front_of (z ∷ xs) x y zero is within = is
front_of (z ∷ xs) x y (suc k) is within = front_of xs x y k is (omega (arith, within))

pub more_of_all : (seeds : Seeds) (n : ℕ) (old new : List CaseSeen) → AreOf seeds n old → AddsGroup seeds n old new → AreOf seeds (n + 1) new
more_of_all seeds n old new (groups, many, are, each) (group, added, is) = (
  groups ++ group ∷ [],
  length-append groups (group ∷ []) ∙ ap (λ k. k + 1) many,
  added ∙ ap₂ (λ xs ys. xs ++ ys) are (sym (append-nil group)) ∙ sym (flat_map-append (λ (g : List CaseSeen). g) groups (group ∷ [])),
  λ place g at. elim (cases_lt place (length groups)) [
    | inl before ↦ each place g (front_of groups group g place at before)
    | inr from ↦ let (last, same) = last_of groups group g place at from in
        subst (λ (h : List CaseSeen). IsGroup seeds place h) same (subst (λ k. IsGroup seeds k group) (sym (last ∙ many)) is)
  ],
)
