-- Some of the nodes of a text.
use Rattle.std.proofs.Common.{◌≡◌, ℕ, suc, ◌+◌, ◌-◌, ◌<◌, ◌≤◌, get_or, List, ◌∷◌, length, take, drop, sym, ap, ap₂, ◌∙◌, arith, drop-cons}
use Rattle.std.proofs.lemmas.List.{take-take, drop-take, drop-drop, length-drop, length-take-le}
use Rattle.bz_sexpr.specs.declared.node.Node.{Node}

module _ (nodes : List Node) (from count : ℕ) where
  -- the first of them
  pub first_seen : (n : Node) → from + count ≤ length nodes → 0 < count → n ≡ get_or nodes from n → take count (drop from nodes) ≡ n ∷ take (count - 1) (drop (from + 1) nodes)
  first_seen n within some is =
      let one : count ≡ suc (count - 1) = omega (arith, some) in
      let next : suc from ≡ from + 1 = omega arith in
      let here : drop from nodes ≡ n ∷ drop (from + 1) nodes = drop-cons nodes from n (omega (arith, within, some)) ∙ ap₂ (λ m k. m ∷ drop k nodes) (sym is) next in
      ap₂ take one here

  pub length_seen : from + count ≤ length nodes → length (take count (drop from nodes)) ≡ count
  length_seen within = length-take-le count (drop from nodes) (omega (arith, within, length-drop from nodes))

  -- the first so many, and those behind them
  pub front_seen : (few : ℕ) → few ≤ count → take few (drop from nodes) ≡ take few (take count (drop from nodes))
  front_seen few le = sym (take-take few count (drop from nodes) le)

  pub back_seen : (few : ℕ) → few ≤ count → take (count - few) (drop (from + few) nodes) ≡ drop few (take count (drop from nodes))
  back_seen few le =
      let all : count ≡ few + (count - few) = omega (arith, le) in
      sym (ap (λ k. drop few (take k (drop from nodes))) all ∙ drop-take few (count - few) (drop from nodes) ∙ ap (take (count - few)) (drop-drop few from nodes))
