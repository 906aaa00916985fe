-- The first word that has a bit.
use Rattle.std.proofs.Common.{◌≡◌, ◌≢◌, ℕ, ◌+◌, ◌-◌, ◌<◌, ◌≤◌, List, length, get_or, take, drop, sym, ap, ◌∙◌, arith, min, inl, inr}
use Rattle.std.specs.Prelude.{bit_or}
use Rattle.std.proofs.lemmas.Nat.{le_or_l, le_or_r}
use Rattle.std.proofs.lemmas.Bool.{cases_lt}
use Rattle.std.specs.List.{All}
use Rattle.std.proofs.lemmas.List.Elements.{All-get_or}
use Rattle.std.proofs.lemmas.List.{get_or-take, get_or-drop, length-take, length-drop}

-- of the words from `start` on, but before `end`, the first m are 0
module _ (ws : List ℕ) (start end m : ℕ) (within : m ≤ length (take (end - start) (drop start ws))) (all : (k : ℕ) → k < m → get_or (take (end - start) (drop start ws)) k 0 ≡ 0) where
  zeros_from : (k : ℕ) → start ≤ k → k < start + m → get_or ws k 0 ≡ 0
  zeros_from k le lt =
      let rest = drop start ws in let part = take (end - start) rest in let j = k - start in
      let jm : j < m = omega (arith, le, lt) in let there : start + j ≡ k = omega (arith, le) in let long = length-take (end - start) rest in
      ap (λ (i : ℕ). get_or ws i 0) (sym there) ∙ sym (get_or-take (end - start) rest j 0 (omega (arith, jm, within, long)) ∙ get_or-drop start ws j 0) ∙ all j jm

-- the first b words are 0, and of the rest the first m
pub zeros_on : (ws : List ℕ) (b m : ℕ) → ((k : ℕ) → k < b → get_or ws k 0 ≡ 0) → m ≤ length (drop b ws) → All (λ (w : ℕ). w ≡ 0) (take m (drop b ws)) → (k : ℕ) → k < b + m → get_or ws k 0 ≡ 0
zeros_on ws b m before within all k lt =
    elim (cases_lt k b) [
      | inl low ↦ before k low
      | inr high ↦
          let rest = drop b ws in let j = k - b in let jm : j < m = omega (arith, high, lt) in let there : b + j ≡ k = omega (arith, high) in
          ap (λ (i : ℕ). get_or ws i 0) (sym there) ∙ sym (get_or-take m rest j 0 jm ∙ get_or-drop b ws j 0)
          ∙ All-get_or (λ (w : ℕ). w ≡ 0) (take m rest) j 0 (omega (arith, jm, within, length-take m rest)) all
    ]

-- four words are 0 where their bits together are
pub none_of_four : (ws : List ℕ) (at : ℕ) → bit_or (bit_or (bit_or (get_or ws at 0) (get_or ws (at + 1) 0)) (get_or ws (at + 2) 0)) (get_or ws (at + 3) 0) ≡ 0
    → (k : ℕ) → at ≤ k → k < at + 4 → get_or ws k 0 ≡ 0
none_of_four ws at none k le lt =
    let a = get_or ws at 0 in let b = get_or ws (at + 1) 0 in let c = get_or ws (at + 2) 0 in let d = get_or ws (at + 3) 0 in
    let abc = bit_or (bit_or a b) c in
    let zabc : abc ≡ 0 = omega (arith, le_or_l abc d, none) in
    let zab : bit_or a b ≡ 0 = omega (arith, le_or_l (bit_or a b) c, zabc) in
    let zd : d ≡ 0 = omega (arith, le_or_r abc d, none) in
    let zc : c ≡ 0 = omega (arith, le_or_r (bit_or a b) c, zabc) in
    let za : a ≡ 0 = omega (arith, le_or_l a b, zab) in
    let zb : b ≡ 0 = omega (arith, le_or_r a b, zab) in
    let by : (j : ℕ) → k ≡ j → get_or ws j 0 ≡ 0 → get_or ws k 0 ≡ 0 = λ j e z. ap (λ (i : ℕ). get_or ws i 0) e ∙ z in
    elim (cases_lt k (at + 1)) [
      | inl l1 ↦ by at (omega (arith, le, l1)) za
      | inr g1 ↦ elim (cases_lt k (at + 2)) [
        | inl l2 ↦ by (at + 1) (omega (arith, g1, l2)) zb
        | inr g2 ↦ elim (cases_lt k (at + 3)) [
          | inl l3 ↦ by (at + 2) (omega (arith, g2, l3)) zc
          | inr g3 ↦ by (at + 3) (omega (arith, g3, lt)) zd
        ]
      ]
    ]

-- those from `from` on, but before `end`
module _ (ws : List ℕ) (from end l b m : ℕ) (last : l ≡ min end (length ws)) (is : b ≡ min from l) (within : m ≤ length (take (l - b) (drop b ws))) where
  part_long : length (take (l - b) (drop b ws)) ≡ l - b
  part_long = omega (arith, length-take (l - b) (drop b ws), length-drop b ws, is, last)

  pub zeros_on_from : ((k : ℕ) → k < m → get_or (take (l - b) (drop b ws)) k 0 ≡ 0) → (k : ℕ) → from ≤ k → k < from + m → get_or ws k 0 ≡ 0
  zeros_on_from all k le lt = zeros_from ws b l m within all k (omega (arith, is, le)) (omega (arith, is, within, part_long, le, lt))

  pub ends_before : from ≤ end → from + m ≤ end
  ends_before ordered = omega (arith, is, last, within, part_long, ordered)

  pub stops_before : (m < length (take (l - b) (drop b ws)) → get_or (take (l - b) (drop b ws)) m 0 ≢ 0) → from + m < end → from + m < length ws → get_or ws (from + m) 0 ≢ 0
  stops_before some before lt z =
      let first : b ≡ from = omega (arith, is, last, before, lt) in
      let inside : m < l - b = omega (arith, first, last, before, lt) in
      let e : b + m ≡ from + m = omega (arith, first) in
      some (omega (arith, inside, part_long)) (get_or-take (l - b) (drop b ws) m 0 inside ∙ get_or-drop b ws m 0 ∙ ap (λ (i : ℕ). get_or ws i 0) e ∙ z)
