-- Channels that are gathered one by one.
use Rattle.std.proofs.Common.{◌≡◌, ◌≢◌, ◌⊎◌, ℕ, ◌+◌, List, [], ◌∷◌, ◌++◌, inl, inr, sym, ap, subst, ◌∙◌, arith}
use Rattle.std.specs.List.{Contains}
use Rattle.std.proofs.lemmas.Bool.{cases_lt}
use Rattle.std.proofs.lemmas.List.Elements.{All-nil, All-push, All-get_or, Contains-append_left, Contains-push, All-weaker}
use Rattle.std.proofs.lemmas.List.Quantifiers.{all_pairs_push}
use Rattle.bz_model.specs.declared.channel.Phase.TheVariants.{Idle}
use Rattle.bz_model.specs.Nets.{State, phase_at}
use Rattle.bz_explore_net.specs.Waiting.{AreBusy, IsBusy, IsLess}

pub busy_start : (s : State) → AreBusy s 0 []
busy_start s = record {
  each = All-nil (IsBusy s 0);
  all = λ k is. absurd (let from = is.from in let to = is.to in omega (arith, from, to));
  once = λ i j d lt to. absurd (omega (arith, to));
}

module _ (s : State) (n : ℕ) (chans : List ℕ) (so : AreBusy s n chans) where
  busy_more : (k : ℕ) → IsBusy s n k → IsBusy s (n + 1) k
  busy_more k is = record { from = is.from; to = (let to = is.to in omega (arith, to)); busy = is.busy }

  within : (k : ℕ) → IsBusy s (n + 1) k → IsBusy s n k ⊎ (k ≡ n + 1)
  within k is = elim (cases_lt n k) [
    | inl above ↦ inr (let to = is.to in omega (arith, above, to))
    | inr least ↦ inl (record { from = is.from; to = least; busy = is.busy })
  ]

  pub busy_none : phase_at s (n + 1) ≡ Idle → AreBusy s (n + 1) chans
  busy_none idle = record {
    each = All-weaker (IsBusy s n) (IsBusy s (n + 1)) busy_more chans so.each;
    all = λ k is. elim (within k is) [
      | inl less ↦ so.all k less
      | inr last ↦ absurd (is.busy (ap (phase_at s) last ∙ idle))
    ];
    once = so.once;
  }

  pub busy_one : phase_at s (n + 1) ≢ Idle → AreBusy s (n + 1) (chans ++ (n + 1) ∷ [])
  busy_one busy = record {
    each = All-push (IsBusy s (n + 1)) chans (n + 1) (All-weaker (IsBusy s n) (IsBusy s (n + 1)) busy_more chans so.each) (record { from = omega arith; to = omega arith; busy = busy });
    all = λ k is. elim (within k is) [
      | inl less ↦ Contains-append_left chans ((n + 1) ∷ []) k (so.all k less)
      | inr last ↦ subst (Contains (chans ++ (n + 1) ∷ [])) (sym last) (Contains-push chans (n + 1))
    ];
    once = all_pairs_push IsLess chans (n + 1) so.once (λ k d lt. let to = (All-get_or (IsBusy s n) chans k d lt so.each).to in omega (arith, to));
  }
