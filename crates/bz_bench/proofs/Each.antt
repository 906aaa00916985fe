-- What is said of each port, port by port.
use Rattle.std.proofs.Common.{◌≡◌, ℕ, zero, suc, ◌+◌, ◌≤◌, Some, List, length, inl, inr, sym, subst, arith}
use Rattle.std.proofs.lemmas.Bool.{cases_lt}
use Rattle.std.proofs.lemmas.Option.{slice_get_within}
use Rattle.bz_model.specs.Names.{numbered}
use Rattle.bz_bench.specs.Groups.{OfEach}
use Rattle.bz_bench.specs.declared.stream.Stream.{Stream}

-- the first n ports
abbrev pub OfFirst : List Stream → (ℕ → Stream → Type 0) → ℕ → Type 0
OfFirst streams P n = (port : ℕ) (stream : Stream) → port ≤ n → numbered streams port ≡ Some stream → P port stream

module _ (streams : List Stream) (P : ℕ → Stream → Type 0) where
  pub first_none : OfFirst streams P 0
  first_none zero s le is = cc
  first_none (suc k) s le is = absurd (omega (arith, le))

  pub first_more : (n : ℕ) → OfFirst streams P n → ((s : Stream) → numbered streams (n + 1) ≡ Some s → P (n + 1) s) → OfFirst streams P (n + 1)
  first_more n before here port s le is = elim (cases_lt n port) [
    | inl above ↦
        let e : n + 1 ≡ port = omega (arith, le, above) in
        subst (λ k. P k s) e (here s (subst (λ k. numbered streams k ≡ Some s) (sym e) is))
    | inr least ↦ before port s least is
  ]

  pub first_all : (n : ℕ) → length streams ≤ n → OfFirst streams P n → OfEach streams P
  first_all n all first zero s is = cc
  first_all n all first (suc k) s is = first (suc k) s (let lt = slice_get_within streams k s is in omega (arith, lt, all)) is
