-- Links that are put one after another.
use Rattle.std.proofs.Common.{◌≡◌, ℕ, ◌+◌, ◌-◌, ◌<◌, inl, inr, Bool, true, List, [], ◌∷◌, ◌++◌, length, get_or, sym, ap, subst, ◌∙◌, arith}
use Rattle.std.proofs.lemmas.List.{get_or_append_left, get_or-append_right, length-append}
use Rattle.std.specs.Prelude.{slice_index}
use Rattle.std.proofs.lemmas.Bool.{cases_lt}
use Rattle.bz_model.specs.Nets.{Wiring, State}
use Rattle.bz_waits.specs.declared.rings.Link.{Link}
use Rattle.bz_waits.specs.Rings.{IsLink, IsLinkAt, IsRing}
use Rattle.bz_waits.specs.Stuck.{is_member}

-- the links of the first components of a list
pub record LinksUpTo (w : Wiring) (s : State) (row : List Bool) (comps : List ℕ) (n : ℕ) (links : List Link) : Type 0 where
  pub len : length links ≡ n
  pub at : (i : ℕ) (d : Link) → i < n → IsLinkAt w s row comps i (get_or links i d)

module _ (w : Wiring) (s : State) (row : List Bool) (comps : List ℕ) where
  -- the link that was found from one component to the next
  pub link_found : (n next : ℕ) (l : Link) → is_member row (slice_index comps n) ≡ true → IsLink w s l → l.comp ≡ slice_index comps n → l.other ≡ next
      → (n + 1 < length comps → next ≡ slice_index comps (n + 1)) → (n + 1 ≡ length comps → next ≡ slice_index comps 0) → IsLinkAt w s row comps n l
  link_found n next l stuck link comp other more last = record {
    stuck = subst (λ c. is_member row c ≡ true) (sym comp) stuck;
    link = link;
    comp = comp;
    next = λ lt. other ∙ more lt;
    back = λ is. other ∙ last is;
  }

  module _ (n : ℕ) (links : List Link) (so : LinksUpTo w s row comps n links) where
    pub links_more : (l : Link) → IsLinkAt w s row comps n l → LinksUpTo w s row comps (n + 1) (links ++ l ∷ [])
    links_more l is = record {
      len = let len = so.len in let more : length (links ++ l ∷ []) ≡ length links + 1 = length-append links (l ∷ []) in omega (arith, len, more);
      at = λ i d lt. elim (cases_lt i n) [
        | inl less ↦
            let len = so.len in
            subst (λ m. IsLinkAt w s row comps i m) (sym (get_or_append_left links (l ∷ []) d i (omega (arith, less, len)))) (so.at i d less)
        | inr least ↦
            let same : n ≡ i = omega (arith, lt, least) in
            let zero_at : i - n ≡ 0 = omega (arith, same) in
            let here : get_or (links ++ l ∷ []) i d ≡ l = get_or-append_right links (l ∷ []) n i d so.len least ∙ ap (λ j. get_or (l ∷ []) j d) zero_at in
            subst (λ m. IsLinkAt w s row comps i m) (sym here) (subst (λ j. IsLinkAt w s row comps j l) same is)
      ];
    }

    pub links_all : n ≡ length comps → IsRing w s (is_member row) links
    links_all is = record {
      members = λ k d lt. (at k d lt).stuck;
      links = λ k d lt. (at k d lt).link;
      next = λ i d lt.
          let len = so.len in
          (at i d (omega (arith, lt))).next (omega (arith, lt, len, is)) ∙ sym (at (i + 1) d lt).comp;
      back = λ i d last.
          let len = so.len in
          (at i d (omega (arith, last))).back (omega (arith, last, len, is)) ∙ sym (at 0 d (omega (arith, last))).comp;
    }
      where
        at : (i : ℕ) (d : Link) → i < length links → IsLinkAt w s row comps i (get_or links i d)
        at i d lt = so.at i d (let len = so.len in omega (arith, lt, len))
