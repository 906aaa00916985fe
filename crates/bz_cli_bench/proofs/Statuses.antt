-- The status of cases, one after another.
use Rattle.std.proofs.Common.{◌≡◌, ℕ, ◌+◌, ◌<◌, ◌≤◌, ◌⊎◌, Bool, true, false, ◌||◌, if◌then◌else◌, Some, List, [], ◌∷◌, ◌++◌, length, take, get_or, inl, inr, refl, sym, subst, ◌∙◌, ap, ap₂, arith}
use Rattle.std.specs.Prelude.{◌==◌, slice_get}
use Rattle.std.specs.List.{list_any}
use Rattle.std.proofs.lemmas.Bool.{cases_lt}
use Rattle.std.proofs.lemmas.List.{take_all, take_more}
use Rattle.std.proofs.lemmas.List.Folds.{list_any-append}
use Rattle.std.proofs.lemmas.Option.{get_or_from_slice_get, slice_get_read, slice_get_within}
use Rattle.bz_cli_bench.specs.declared.ended.Ended.{Ended}
use Rattle.bz_cli_bench.specs.declared.ended.Ended.TheVariants.{Judged, Unlike, BadBench, NoNet}
use Rattle.bz_cli_bench.specs.declared.verdict.Verdict.TheVariants.{Passed, Differs, Extra, Stuck, Spins, Spent}
use Rattle.bz_cli_bench.specs.Cases.{AllPassed, CaseSeen, IsFailed, IsPassed, IsStatus, SomeFailed, graver, gravest, has_status, status_by, status_of}

-- the gravest of what there is
abbrev pick : Bool → Bool → Bool → ℕ
pick two one four = if two then 2 else (if one then 1 else (if four then 4 else 0))

-- the statuses that there are
data Status : ℕ → Type 0 where
  well : Status 0
  failed : Status 1
  refused : Status 2
  spent : Status 4

status_by_is : (ended : Ended) → Status (status_by ended)
status_by_is (Judged Passed) = well
status_by_is (Judged (Differs port place due came)) = failed
status_by_is (Judged (Extra port came)) = failed
status_by_is (Judged (Stuck group)) = failed
status_by_is (Judged (Spins from group)) = failed
status_by_is (Judged Spent) = spent
status_by_is (Unlike other) = failed
status_by_is (BadBench at cause) = refused
status_by_is NoNet = refused

status_is : (case : CaseSeen) → Status (status_of case)
status_is case = elim case.unwritten as (λ b. Status (if b then 2 else status_by case.ended)) [
  | true ↦ refused
  | false ↦ status_by_is case.ended
]

picks : (two one four : Bool) (status : ℕ) → Status status
    → pick (two || ((status == 2) || false)) (one || ((status == 1) || false)) (four || ((status == 4) || false)) ≡ graver (pick two one four) status
picks true one four _ well = refl
picks false true four _ well = refl
picks false false true _ well = refl
picks false false false _ well = refl
picks true one four _ failed = refl
picks false true four _ failed = refl
picks false false true _ failed = refl
picks false false false _ failed = refl
picks true one four _ refused = refl
picks false true four _ refused = refl
picks false false true _ refused = refl
picks false false false _ refused = refl
picks true one four _ spent = refl
picks false true four _ spent = refl
picks false false true _ spent = refl
picks false false false _ spent = refl

-- of one case more
gravest_more : (cases : List CaseSeen) (case : CaseSeen) → gravest (cases ++ case ∷ []) ≡ graver (gravest cases) (status_of case)
gravest_more cases case =
    ap (λ b. pick b (has_status 1 (cases ++ case ∷ [])) (has_status 4 (cases ++ case ∷ []))) (list_any-append (λ (c : CaseSeen). status_of c == 2) cases (case ∷ []))
    ∙ ap (λ b. pick (has_status 2 cases || has_status 2 (case ∷ [])) b (has_status 4 (cases ++ case ∷ []))) (list_any-append (λ (c : CaseSeen). status_of c == 1) cases (case ∷ []))
    ∙ ap (λ b. pick (has_status 2 cases || has_status 2 (case ∷ [])) (has_status 1 cases || has_status 1 (case ∷ [])) b) (list_any-append (λ (c : CaseSeen). status_of c == 4) cases (case ∷ []))
    ∙ picks (has_status 2 cases) (has_status 1 cases) (has_status 4 cases) (status_of case) (status_is case)

-- the status of the first n cases
pub record IsFirst (cases : List CaseSeen) (n status : ℕ) : Type 0 where
  pub passed : status ≡ 0 → (place : ℕ) (ended : CaseSeen) → place < n → slice_get cases place ≡ Some ended → IsPassed ended
  pub failed : status ≡ 1 → SomeFailed cases
  pub gravest : status ≡ gravest (take n cases)

pub first_none : (cases : List CaseSeen) → IsFirst cases 0 0
first_none cases = record {
  passed = λ zero place ended less is. absurd (omega (arith, less));
  failed = λ one. absurd (omega (arith, one));
  gravest = refl;
}

pub first_more : (cases : List CaseSeen) (n : ℕ) (ended : CaseSeen) (before one after : ℕ) → n < length cases → ended ≡ get_or cases n ended → one ≡ status_of ended
    → (one ≡ 0 → IsPassed ended) → (one ≡ 1 → IsFailed ended) → (after ≡ before) ⊎ (after ≡ one) → (after ≡ 0 → (before ≡ 0) × (one ≡ 0)) → after ≡ graver before one
    → IsFirst cases n before → IsFirst cases (n + 1) after
first_more cases n ended before one after within was is_status passes fails which none graver_is first = record {
  passed = λ zero place other less is. elim (cases_lt place n) [
    | inl earlier ↦ first.passed (none zero).0 place other earlier is
    | inr least ↦
        let e : n ≡ place = omega (arith, less, least) in
        let same : ended ≡ other = was ∙ ap (λ k. get_or cases k ended) e ∙ get_or_from_slice_get cases place other ended is in
        subst IsPassed same (passes (none zero).1)
  ];
  failed = λ is_one. elim which [
    | inl as_before ↦ first.failed (sym as_before ∙ is_one)
    | inr as_one ↦ (n, ended, slice_get_read cases (length cases) n ended refl within was, fails (sym as_one ∙ is_one))
  ];
  gravest = graver_is ∙ ap₂ graver first.gravest is_status ∙ sym (gravest_more (take n cases) ended) ∙ ap gravest (sym (take_more cases n ended within ∙ ap (λ c. take n cases ++ c ∷ []) (sym was)));
}

pub all_gravest : (cases : List CaseSeen) (n status : ℕ) → length cases ≤ n → IsFirst cases n status → status ≡ gravest cases
all_gravest cases n status all first = first.gravest ∙ ap gravest (take_all n cases all)

pub all_passed : (cases : List CaseSeen) (n status : ℕ) → length cases ≤ n → IsFirst cases n status → status ≡ 0 → AllPassed cases
all_passed cases n status all first zero place case is = first.passed zero place case (let within = slice_get_within cases place case is in omega (arith, within, all)) is

-- a status of neither says nothing
pub refused_says : (cases : List CaseSeen) (covers : Bool) → covers ≡ true → IsStatus cases covers 2
refused_says cases covers is = record {
  passed = λ zero. absurd (omega (arith, zero));
  failed = λ one. absurd (omega (arith, one));
  gravest = inr (is, refl);
}
