-- Links that are looked at one after another.
use Rattle.std.proofs.Common.{◌≡◌, ℕ, ◌+◌, ◌-◌, ◌<◌, List, inl, inr, subst, arith}
use Rattle.std.specs.Prelude.{slice_index}
use Rattle.std.proofs.lemmas.Bool.{cases_lt}
use Rattle.bz_waits.specs.declared.wait.Wait.{Wait}
use Rattle.bz_waits.specs.Cycles.{WaitsFor}

-- the members before the one at place n wait for the next
abbrev pub LinksUpTo : List Wait → List ℕ → ℕ → Type 0
LinksUpTo waits cycle n = (i : ℕ) → i + 1 < n → WaitsFor waits (slice_index cycle i) (slice_index cycle (i + 1))

module _ (waits : List Wait) (cycle : List ℕ) where
  pub links_start : LinksUpTo waits cycle 1
  links_start = λ i lt. absurd (omega (arith, lt))

  pub links_more : (n : ℕ) → 0 < n → LinksUpTo waits cycle n → WaitsFor waits (slice_index cycle (n - 1)) (slice_index cycle n) → LinksUpTo waits cycle (n + 1)
  links_more n pos so link = λ i lt. elim (cases_lt (i + 1) n) [
    | inl less ↦ so i less
    | inr least ↦
        let before : n - 1 ≡ i = omega (arith, lt, least, pos) in
        let at : n ≡ i + 1 = omega (arith, lt, least) in
        subst (λ j. WaitsFor waits (slice_index cycle i) (slice_index cycle j)) at (subst (λ j. WaitsFor waits (slice_index cycle j) (slice_index cycle n)) before link)
  ]
