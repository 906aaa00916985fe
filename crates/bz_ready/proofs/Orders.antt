-- An order of numbers, and the exchange of two of them.
use Rattle.std.proofs.Common.{◌≡◌, ℕ, ◌+◌, ◌<◌, ◌^◌, List, [], ◌∷◌, ◌++◌, length, get_or, set, refl, sym, ap, ◌∙◌, subst, arith, inl, inr}
use Rattle.std.proofs.lemmas.Bool.{cases_eq}
use Rattle.std.proofs.lemmas.List.{get_or_default, map-id}
use Rattle.std.proofs.lemmas.List.Edits.{Swapped, swapped_from_swap, length-swap}
use Rattle.std.proofs.lemmas.List.FromFn.{length-range_with_len, get_or-range_with_len, map-range_with_len_more}
use Rattle.std.specs.List.{swap, range_with_len}
use Rattle.bz_ready.specs.Order.{IsOrder, IsEach}

module _ (f g h k : ℕ → ℕ) (n a b : ℕ) (al : a < n) (bl : b < n)
    (number_at : (i : ℕ) → i < n → f (h i) ≡ i) (place_in : (i : ℕ) → i < n → h i < n)
    (place_of : (i : ℕ) → i < n → h (f i) ≡ i) (number_in : (i : ℕ) → i < n → f i < n)
    (s : Swapped f g a b) (t : Swapped h k (f a) (f b)) where
  -- where the number at a now stands
  at_first : k (f a) ≡ b
  at_first = t.0 ∙ place_of b bl

  at_second : k (f b) ≡ a
  at_second = t.1 ∙ place_of a al

  pub swap_number_at : (i : ℕ) → i < n → g (k i) ≡ i
  swap_number_at i lt =
      elim (cases_eq i (f a)) [
        | inl e ↦ ap (λ (m : ℕ). g (k m)) e ∙ ap g at_first ∙ s.1 ∙ sym e
        | inr x ↦ elim (cases_eq i (f b)) [
          | inl e ↦ ap (λ (m : ℕ). g (k m)) e ∙ ap g at_second ∙ s.0 ∙ sym e
          | inr y ↦ ap g (t.2 i x y) ∙ s.2 (h i) (λ e. x (sym (number_at i lt) ∙ ap f e)) (λ e. y (sym (number_at i lt) ∙ ap f e)) ∙ number_at i lt
        ]
      ]

  pub swap_place_in : (i : ℕ) → i < n → k i < n
  swap_place_in i lt =
      let P : ℕ → Type 0 = λ (m : ℕ). m < n in
      elim (cases_eq i (f a)) [
        | inl e ↦ subst P (sym (ap k e ∙ at_first)) bl
        | inr x ↦ elim (cases_eq i (f b)) [
          | inl e ↦ subst P (sym (ap k e ∙ at_second)) al
          | inr y ↦ subst P (sym (t.2 i x y)) (place_in i lt)
        ]
      ]

  pub swap_place_of : (i : ℕ) → i < n → k (g i) ≡ i
  swap_place_of i lt =
      elim (cases_eq i a) [
        | inl e ↦ ap (λ (m : ℕ). k (g m)) e ∙ ap k s.0 ∙ at_second ∙ sym e
        | inr x ↦ elim (cases_eq i b) [
          | inl e ↦ ap (λ (m : ℕ). k (g m)) e ∙ ap k s.1 ∙ at_first ∙ sym e
          | inr y ↦ ap k (s.2 i x y)
              ∙ t.2 (f i) (λ e. x (sym (place_of i lt) ∙ ap h e ∙ place_of a al)) (λ e. y (sym (place_of i lt) ∙ ap h e ∙ place_of b bl)) ∙ place_of i lt
        ]
      ]

  pub swap_number_in : (i : ℕ) → i < n → g i < n
  swap_number_in i lt =
      let P : ℕ → Type 0 = λ (m : ℕ). m < n in
      elim (cases_eq i a) [
        | inl e ↦ subst P (sym (ap g e ∙ s.0)) (number_in b bl)
        | inr x ↦ elim (cases_eq i b) [
          | inl e ↦ subst P (sym (ap g e ∙ s.1)) (number_in a al)
          | inr y ↦ subst P (sym (s.2 i x y)) (number_in i lt)
        ]
      ]

-- one number more
pub counted_more : (k : ℕ) (ns all : List ℕ) → all ≡ ns ++ k ∷ [] → ns ≡ range_with_len 0 k → all ≡ range_with_len 0 (k + 1)
counted_more k ns all e f =
    let id = λ (x : ℕ). x in let more = map-range_with_len_more id 0 k k (let z : 0 + k ≡ k = omega arith in z) in
    e ∙ ap (λ (l : List ℕ). l ++ k ∷ []) (f ∙ sym (map-id (range_with_len 0 k))) ∙ sym more ∙ map-id (range_with_len 0 (k + 1))

-- an exchange, written as two writes
pub swap_is : (ns : List ℕ) (i j d : ℕ) → i < length ns → j < length ns → set (set ns i (get_or ns j d)) j (get_or ns i d) ≡ swap ns i j
swap_is [] i j d il jl = absurd (omega arith)
swap_is (e ∷ ns) i j d il jl =
    let xs = e ∷ ns in
    ap (λ (n : ℕ). set (set xs i n) j (get_or xs i d)) (get_or_default xs j d e jl) ∙ ap (λ (n : ℕ). set (set xs i (get_or xs j e)) j n) (get_or_default xs i d e il)

pub order_swapped : (o p : List ℕ) (a b x y : ℕ) → IsOrder o p → a < length o → b < length o → x ≡ get_or o a 0 → y ≡ get_or o b 0 → IsOrder (swap o a b) (swap p x y)
order_swapped o p a b x y is al bl xe ye =
    let n = length o in let N : ℕ → Type 0 = λ (m : ℕ). m < n in
    let f = λ (i : ℕ). get_or o i 0 in let g = λ (i : ℕ). get_or (swap o a b) i 0 in let h = λ (i : ℕ). get_or p i 0 in
    let k = λ (i : ℕ). get_or (swap p (f a) (f b)) i 0 in
    let s : Swapped f g a b = swapped_from_swap o (swap o a b) a b 0 al bl refl in
    let fa : f a < length p = omega (arith, is.number_in a al, is.size) in let fb : f b < length p = omega (arith, is.number_in b bl, is.size) in
    let t : Swapped h k (f a) (f b) = swapped_from_swap p (swap p (f a) (f b)) (f a) (f b) 0 fa fb refl in
    let size = length-swap o a b in
    rw (xe, ye) (record {
      size = length-swap p (f a) (f b) ∙ is.size ∙ sym size;
      small = omega (arith, size, is.small);
      number_at = λ i lt. swap_number_at f g h k n a b al bl is.number_at is.place_in is.place_of is.number_in s t i (omega (arith, size));
      place_in = λ i lt. omega (arith, size, swap_place_in f g h k n a b al bl is.number_at is.place_in is.place_of is.number_in s t i (omega (arith, size)));
      place_of = λ i lt. swap_place_of f g h k n a b al bl is.number_at is.place_in is.place_of is.number_in s t i (omega (arith, size));
      number_in = λ i lt. omega (arith, size, swap_number_in f g h k n a b al bl is.number_at is.place_in is.place_of is.number_in s t i (omega (arith, size)));
    })

pub order_new : (n : ℕ) (o p : List ℕ) → n < 2 ^ 32 → o ≡ range_with_len 0 n → p ≡ range_with_len 0 n → IsOrder o p
order_new n o p small oe pe =
    let long = length-range_with_len 0 n in
    let at : (k : ℕ) → k < length (range_with_len 0 n) → get_or (range_with_len 0 n) k 0 ≡ k = λ k lt. get_or-range_with_len 0 n k 0 (omega (arith, long)) ∙ (let z : 0 + k ≡ k = omega arith in z) in
    let in' : (k : ℕ) → k < length (range_with_len 0 n) → get_or (range_with_len 0 n) k 0 < length (range_with_len 0 n) = λ k lt. omega (arith, at k lt) in
    let twice : (k : ℕ) → k < length (range_with_len 0 n) → get_or (range_with_len 0 n) (get_or (range_with_len 0 n) k 0) 0 ≡ k = λ k lt. ap (λ (m : ℕ). get_or (range_with_len 0 n) m 0) (at k lt) ∙ at k lt in
    rw (oe, pe) (record { size = refl; small = omega (arith, long); number_at = twice; place_in = in'; place_of = twice; number_in = in' })

pub each_of : (o p : List ℕ) → IsOrder o p → IsEach o
each_of o p is = record {
  below = is.number_in;
  found = λ k lt. (get_or p k 0, is.place_in k lt, is.number_at k lt);
  once = λ i j il jl e. sym (is.place_of i il) ∙ ap (λ (k : ℕ). get_or p k 0) e ∙ is.place_of j jl;
}
