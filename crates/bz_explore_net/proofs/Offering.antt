-- Offers that are gathered component by component, and port by port.
use Rattle.std.proofs.Common.{◌≡◌, ◌⊎◌, ℕ, ◌+◌, ◌<◌, List, [], ◌∷◌, ◌++◌, length, get_or, inl, inr, sym, subst, ◌∙◌, arith}
use Rattle.std.proofs.lemmas.Bool.{cases_lt}
use Rattle.std.proofs.lemmas.List.Elements.{All-nil, All-push, All-get_or, Contains-append_left, Contains-push, All-weaker}
use Rattle.std.proofs.lemmas.List.Quantifiers.{all_pairs_push}
use Rattle.bz_model.specs.Nets.{Site, State, StepsAt, site_at}
use Rattle.bz_model.specs.Runs.{CanStep}
use Rattle.bz_explore_net.specs.declared.offers.Offer.{Offer}
use Rattle.bz_explore_net.specs.Offers.{IsOffer, IsBefore, IsOffered, Offers, OffersUpTo, Precedes}

offered_more : (offers : List Offer) (o : Offer) (c p : ℕ) → IsOffered offers c p → IsOffered (offers ++ o ∷ []) c p
offered_more offers o c p (x, has, comp, port) = (x, Contains-append_left offers (o ∷ []) x has, comp, port)

module _ (sites : List Site) (s : State) where
  pub offers_start : OffersUpTo sites s 1 1 []
  offers_start = record {
    each = All-nil (IsOffer sites s);
    all = λ d q steps before. absurd (none d q steps before);
    once = λ i j d lt to. absurd (omega (arith, to));
    before = All-nil (IsBefore 1 1);
  }
    where
      none : (d q : ℕ) → StepsAt sites s d q → (d < 1) ⊎ ((d ≡ 1) × (q < 1)) → ⊥
      none d q steps (inl lt) = let from = steps.is_port.comp_from in omega (arith, lt, from)
      none d q steps (inr (is, lt)) = let from = steps.is_port.port_from in omega (arith, lt, from)

  module _ (c p : ℕ) (offers : List Offer) (so : OffersUpTo sites s c p offers) where
    before_more : (o : Offer) → IsBefore c p o → IsBefore c (p + 1) o
    before_more o (inl lt) = inl lt
    before_more o (inr (is, lt)) = inr (is, omega (arith, lt))

    at_last : (d q : ℕ) → (d < c) ⊎ ((d ≡ c) × (q < p + 1)) → ((d < c) ⊎ ((d ≡ c) × (q < p))) ⊎ ((d ≡ c) × (q ≡ p))
    at_last d q (inl lt) = inl (inl lt)
    at_last d q (inr (is, lt)) = elim (lt_or_is q p lt) [
      | inl less ↦ inl (inr (is, less))
      | inr same ↦ inr (is, same)
    ]
      where
        lt_or_is : (a b : ℕ) → a < b + 1 → (a < b) ⊎ (a ≡ b)
        lt_or_is a b to = elim (cases_lt a b) [
          | inl less ↦ inl less
          | inr least ↦ inr (omega (arith, to, least))
        ]

    pub offers_none : (StepsAt sites s c p → ⊥) → OffersUpTo sites s c (p + 1) offers
    offers_none none = record {
      each = so.each;
      all = λ d q steps to. elim (at_last d q to) [
        | inl before ↦ so.all d q steps before
        | inr (is, at) ↦ absurd (none (subst (λ (x : ℕ). StepsAt sites s x p) is (subst (λ (y : ℕ). StepsAt sites s d y) at steps)))
      ];
      once = so.once;
      before = All-weaker (IsBefore c p) (IsBefore c (p + 1)) before_more offers so.before;
    }

    pub offers_one : (o : Offer) → o.comp ≡ c → o.port ≡ p → IsOffer sites s o → OffersUpTo sites s c (p + 1) (offers ++ o ∷ [])
    offers_one o comp port is = record {
      each = All-push (IsOffer sites s) offers o so.each is;
      all = λ d q steps to. elim (at_last d q to) [
        | inl before ↦ offered_more offers o d q (so.all d q steps before)
        | inr (same, at) ↦ (o, Contains-push offers o, comp ∙ sym same, port ∙ sym at)
      ];
      once = all_pairs_push Precedes offers o so.once
          (λ k d lt. subst (λ (x : ℕ). IsBefore x o.port (get_or offers k d)) (sym comp) (subst (λ (y : ℕ). IsBefore c y (get_or offers k d)) (sym port) (All-get_or (IsBefore c p) offers k d lt so.before)));
      before = All-push (IsBefore c (p + 1)) offers o (All-weaker (IsBefore c p) (IsBefore c (p + 1)) before_more offers so.before) (inr (comp, omega (arith, port)));
    }

    next_comp : (o : Offer) → IsBefore c p o → IsBefore (c + 1) 1 o
    next_comp o (inl lt) = inl (omega (arith, lt))
    next_comp o (inr (is, lt)) = inl (omega (arith, is))

    pub offers_next : ((q : ℕ) → StepsAt sites s c q → q < p) → OffersUpTo sites s (c + 1) 1 offers
    offers_next within = record {
      each = so.each;
      all = λ d q steps to. so.all d q steps (earlier d q steps to);
      once = so.once;
      before = All-weaker (IsBefore c p) (IsBefore (c + 1) 1) next_comp offers so.before;
    }
      where
        lt_or_is : (a b : ℕ) → a < b + 1 → (a < b) ⊎ (a ≡ b)
        lt_or_is a b to = elim (cases_lt a b) [
          | inl less ↦ inl less
          | inr least ↦ inr (omega (arith, to, least))
        ]

        earlier : (d q : ℕ) → StepsAt sites s d q → (d < c + 1) ⊎ ((d ≡ c + 1) × (q < 1)) → (d < c) ⊎ ((d ≡ c) × (q < p))
        earlier d q steps (inr (is, lt)) = let from = steps.is_port.port_from in absurd (omega (arith, lt, from))
        earlier d q steps (inl lt) = elim (lt_or_is d c lt) [
          | inl less ↦ inl less
          | inr same ↦ inr (same, within q (subst (λ (x : ℕ). StepsAt sites s x q) same steps))
        ]

  pub offers_skip : (c : ℕ) (offers : List Offer) → OffersUpTo sites s c 1 offers → (CanStep sites s c → ⊥) → OffersUpTo sites s (c + 1) 1 offers
  offers_skip c offers so none = offers_next c 1 offers so (λ q steps. absurd (none (q, steps)))

  -- all ports of a component were looked at
  pub offers_past : (c n : ℕ) (offers : List Offer) → n ≡ length (site_at sites c).chans → OffersUpTo sites s c (n + 1) offers → OffersUpTo sites s (c + 1) 1 offers
  offers_past c n offers is so = offers_next c (n + 1) offers so (λ q steps. let to = steps.is_port.port_to in omega (arith, is, to))

  pub offers_whole : (n : ℕ) (offers : List Offer) → n ≡ length sites → OffersUpTo sites s (n + 1) 1 offers → Offers sites s offers
  offers_whole n offers is so = record {
    each = so.each;
    all = λ c p steps. so.all c p steps (inl (let to = steps.is_port.comp_to in omega (arith, is, to)));
    once = so.once;
  }
