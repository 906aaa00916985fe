-- A CaseFetch at its first port: it replies once, by the case that its index picks.
use Rattle.std.proofs.Common.{◌≡◌, ◌≢◌, ◌⊎◌, inl, inr, ℕ, zero, suc, ◌+◌, ◌<◌, ◌≤◌, Bool, true, false, Option, Some, None, List, get_or, refl, sym, ap, subst, arith}
use Rattle.std.specs.Prelude.{nat_eq, ◌==◌}
use Rattle.std.proofs.lemmas.Bool.{cases_eq, eq-eqb, ne_eqb}
use Rattle.std.proofs.lemmas.List.{get_or-set_other}
use Rattle.bz_model.specs.declared.expr.Expr.TheVariants.{Slot, Fixed}
use Rattle.bz_model.specs.declared.spans.Span.{Span}
use Rattle.bz_model.specs.Specifications.{set_of}
use Rattle.bz_model.specs.Terms.{Store, stored, picks, Term, take, reply, seq, forever, when, in_turn}
use Rattle.bz_model.specs.Processes.{pull, after}
use Rattle.bz_run_laws.proofs.Alternating.{Port, Passes}
use Rattle.bz_run_laws.proofs.Steering.{Ends, If, Steers}

if-true : (b : Bool) (A B : Type 0) → b ≡ true → A → If b A B
if-true true A B e x = x
if-true false A B e x = absurd (cc)

if-false : (b : Bool) (A B : Type 0) → b ≡ false → B → If b A B
if-false true A B e x = absurd (cc)
if-false false A B e x = x

-- what is pulled into slot 0 leaves the index
index-kept : (v : Option ℕ) (s : Store) → get_or (stored 0 v s) 1 0 ≡ get_or s 1 0
index-kept None s = refl
index-kept (Some v) s = get_or-set_other s 0 1 v 0 (omega arith)

module _ (spans : List Span) (n : ℕ) (bounded : (v : ℕ) → set_of spans n v ≤ n) where
  abbrev case : ℕ → Term
  case i = when (picks spans n 1 i) (seq (pull (after i) 0) (reply 1 (Slot 0)))

  abbrev last : Term
  last = when (picks spans n 1 n) (reply 1 (Fixed 0))

  -- closed where a round ends
  abbrev Shut : Store → Port → Type 0
  Shut s a = a ≡ Some false

  abbrev picked : Store → ℕ
  picked s = set_of spans n (get_or s 1 0)

  -- in front of case i: it was an earlier one that was picked, and port 1 has been closed; or it is this or a later one
  abbrev Before : ℕ → Store → Port → Type 0
  Before i s a = ((picked s < i) × (a ≡ Some false)) ⊎ ((i ≤ picked s) × (a ≡ Some true))

  at-last : (i : ℕ) (s : Store) (a : Port) → i ≡ n → Before i s a → Steers 1 last Shut s a
  at-last i s a e (inl x) =
      let lt = x.0 in
      if-false (nat_eq (picked s) n) (Steers 1 (reply 1 (Fixed 0)) Shut s a) (Shut s a) (ne_eqb (picked s) n (λ is. omega (arith, e, lt, is))) x.1
  at-last i s a e (inr x) =
      let le = x.0 in
      let most = bounded (get_or s 1 0) in
      if-true (nat_eq (picked s) n) (Steers 1 (reply 1 (Fixed 0)) Shut s a) (Shut s a) (eq-eqb (picked s) n (omega (arith, e, le, most))) (x.1, refl)

  -- case i, where the cases behind it go on as they should
  module _ (i : ℕ) (rest : Ends) (on : (s : Store) (a : Port) → Before (suc i) s a → rest s a) where
    opened : (s : Store) (a : Port) → picked s ≡ i → Before i s a → a ≡ Some true
    opened s a is (inl y) = let lt = y.0 in absurd (omega (arith, is, lt))
    opened s a is (inr y) = y.1

    passed : (s : Store) (a : Port) → picked s ≢ i → Before i s a → Before (suc i) s a
    passed s a ne (inl y) = let lt = y.0 in inl (omega (arith, lt), y.1)
    passed s a ne (inr y) = let le = y.0 in inr (omega (arith, le, ne), y.1)

    pulled : (s : Store) (a : Port) → picked s ≡ i → a ≡ Some true → Steers 1 (seq (pull (after i) 0) (reply 1 (Slot 0))) rest s a
    pulled s a is up =
        let apart : (after i == 1) ≡ false = ne_eqb (after i) 1 (omega arith) in
        subst (λ b. Passes b false true (λ c. (v : Option ℕ) → Passes b true false (λ d. (d ≡ Some true) × rest (stored 0 v s) (Some false)) c) a) (sym apart)
        (λ v. (up, on (stored 0 v s) (Some false) (inl (let same = ap (set_of spans n) (index-kept v s) in omega (arith, same, is), refl))))

    at-case : (s : Store) (a : Port) → Before i s a → Steers 1 (case i) rest s a
    at-case s a x = elim (cases_eq (picked s) i) [
      | inl is ↦ if-true (nat_eq (picked s) i) (Steers 1 (seq (pull (after i) 0) (reply 1 (Slot 0))) rest s a) (rest s a) (eq-eqb (picked s) i is) (pulled s a is (opened s a is x))
      | inr ne ↦ if-false (nat_eq (picked s) i) (Steers 1 (seq (pull (after i) 0) (reply 1 (Slot 0))) rest s a) (rest s a) (ne_eqb (picked s) i ne) (on s a (passed s a ne x))
    ]

  cases : (i m : ℕ) → i + m ≡ n → (s : Store) (a : Port) → Before i s a → Steers 1 (in_turn i m case) (Steers 1 last Shut) s a
  cases i zero e s a x = at-last i s a (omega (arith, e)) x
  cases i (suc m) e s a x = at-case i (Steers 1 (in_turn (suc i) m case) (Steers 1 last Shut)) (λ r b y. cases (suc i) m (omega (arith, e)) r b y) s a x

  pub fetches : (s : Store) → Steers 1 (forever (seq (take 1 1) (seq (pull 2 1) (seq (in_turn 0 n case) last)))) (λ _ _. Unit {0}) s (Some false)
  fetches s r v = (refl, λ u. cases 0 n (omega arith) (stored 1 u (stored 1 v r)) (Some true) (inr (omega arith, refl)))
