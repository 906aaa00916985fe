-- Ports found by the names of all of them.
use Rattle.std.proofs.Common.{◌≡◌, ℕ, suc, ◌+◌, Bool, true, false, Option, None, Some, List, [], ◌∷◌, map, refl, sym, ◌∙◌, ap, arith, bytes_eq, position}
use Rattle.std.proofs.lemmas.Iterator.Adapters.{position_from-zero}
use Rattle.std.proofs.lemmas.Slice.Eq.{bytes_eq-Decides}
use Rattle.std.specs.List.{position_from}
use Rattle.std.specs.Option.{option_map}
use Rattle.bz_model.specs.declared.names.Port.{Port}
use Rattle.bz_model.specs.Names.{external, number_from, port_number}

bytes_turn : (a b : List ℕ) → bytes_eq a b ≡ bytes_eq b a
bytes_turn a b = elim (bytes_eq a b) as (λ x. bytes_eq a b ≡ x → x ≡ bytes_eq b a) [
  | true ↦ λ e. sym ((bytes_eq-Decides b a).1 (sym ((bytes_eq-Decides a b).0 e)))
  | false ↦ λ e. elim (bytes_eq b a) as (λ y. bytes_eq b a ≡ y → false ≡ y) [
    | true ↦ λ f. let it = (bytes_eq-Decides a b).1 (sym ((bytes_eq-Decides b a).0 f)) in cc
    | false ↦ λ f. refl
  ] refl
] refl

place_from : (ports : List Port) (name : List ℕ) (k : ℕ) → option_map suc (position_from (bytes_eq name) k (map (λ (p : Port). p.name.items) ports)) ≡ number_from (suc k) (map external ports) name
place_from [] name k = refl
place_from (p ∷ ps) name k =
    let next : k + 1 ≡ suc k = omega arith in
    elim (bytes_eq p.name.items name) as (λ b. bytes_eq p.name.items name ≡ b → option_map suc (position_from (bytes_eq name) k (map (λ (q : Port). q.name.items) (p ∷ ps))) ≡ number_from (suc k) (map external (p ∷ ps)) name) [
      | true ↦ λ e. rw (bytes_turn name p.name.items, e) refl
      | false ↦ λ e. rw (bytes_turn name p.name.items, e, next) (place_from ps name (suc k))
    ] refl

-- the number of the first port of a name is one more than its place among the names
pub number_placed : (ports : List Port) (name : List ℕ) → option_map suc (position (bytes_eq name) (map (λ (p : Port). p.name.items) ports)) ≡ port_number (map external ports) name
number_placed ports name = ap (option_map suc) (position_from-zero (bytes_eq name) (map (λ (p : Port). p.name.items) ports)) ∙ place_from ports name 0
