-- Items that are added to a text, one after the other.
use Rattle.std.proofs.Common.{ℕ, ◌+◌, ◌<◌, ◌≤◌, Option, List, length, map, take, get_or, sym, subst}
use Rattle.std.proofs.lemmas.List.{get_or_default, map-id, take_all}
use Rattle.bz_text.specs.Growing.{Grows}
use Rattle.bz_cli_input.specs.Listing.{lines}
use Rattle.bz_cli_input.proofs.Lines.{grown_line}

-- items that were added, and the next; and all of them
module _ {X Y : Type 0} (f : ℕ → X → List ℕ) (g : Y → X) (ys : List Y) (i : ℕ) where
  pub grown-next : (d : Y) → i < length ys → (a b c : Option (List ℕ)) → Grows a b (lines f 1 (map g (take i ys))) → Grows b c (f (i + 1) (g (get_or ys i d))) → Grows a c (lines f 1 (map g (take (i + 1) ys)))
  grown-next d within a b c p q = grown_line f g ys i (get_or ys i d) within (get_or_default ys i d (get_or ys i d) within) a b c p q

  pub grown-all : length ys ≤ i → (a b : Option (List ℕ)) → Grows a b (lines f 1 (map g (take i ys))) → Grows a b (lines f 1 (map g ys))
  grown-all le a b p = subst (λ zs. Grows a b (lines f 1 (map g zs))) (take_all i ys le) p

-- the same of items as they are
module _ {X : Type 0} (f : ℕ → X → List ℕ) (xs : List X) (i : ℕ) where
  pub listed-next : (d : X) → i < length xs → (a b c : Option (List ℕ)) → Grows a b (lines f 1 (take i xs)) → Grows b c (f (i + 1) (get_or xs i d)) → Grows a c (lines f 1 (take (i + 1) xs))
  listed-next d within a b c p q =
      subst (λ zs. Grows a c (lines f 1 zs)) (map-id (take (i + 1) xs))
      (grown-next f (λ x. x) xs i d within a b c (subst (λ zs. Grows a b (lines f 1 zs)) (sym (map-id (take i xs))) p) q)

  pub listed-all : length xs ≤ i → (a b : Option (List ℕ)) → Grows a b (lines f 1 (take i xs)) → Grows a b (lines f 1 xs)
  listed-all le a b p = subst (λ zs. Grows a b (lines f 1 zs)) (take_all i xs le) p
