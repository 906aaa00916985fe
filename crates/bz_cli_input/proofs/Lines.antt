-- Numbered lines, printed one after another.
use Rattle.std.proofs.Common.{◌≡◌, ℕ, suc, ◌+◌, ◌<◌, ◌≤◌, Bool, List, [], ◌∷◌, ◌++◌, Option, map, length, take, get_or, append_assoc, append-nil, sym, ap, ◌∙◌, subst, arith}
use Rattle.std.proofs.lemmas.List.{take_all, take_more, length-map, map_push, length-take-le}
use Rattle.bz_text.specs.Growing.{Grows}
use Rattle.bz_text.proofs.Grown.{grows_then}
use Rattle.bz_trace_text.specs.Printing.{PrintsFrom}
use Rattle.bz_trace_text.proofs.Printed.{prints_then}
use Rattle.bz_cli_input.specs.Listing.{lines}

lines_append : {X : Type 0} → (f : ℕ → X → List ℕ) (k : ℕ) (xs ys : List X) → lines f k (xs ++ ys) ≡ lines f k xs ++ lines f (k + length xs) ys
lines_append f k [] ys =
    let e : k ≡ k + 0 = omega arith in
    ap (λ n. lines f n ys) e
lines_append f k (x ∷ xs) ys =
    let e : suc k + length xs ≡ k + suc (length xs) = omega arith in
    ap (λ t. f k x ++ t) (lines_append f (suc k) xs ys ∙ ap (λ n. lines f (suc k) xs ++ lines f n ys) e)
    ∙ sym (append_assoc (f k x) (lines f (suc k) xs) (lines f (k + suc (length xs)) ys))

module _ {X Y : Type 0} (f : ℕ → X → List ℕ) (g : Y → X) (ys : List Y) (i : ℕ) (y : Y) (within : i < length ys) (read : y ≡ get_or ys i y) where
  abbrev pub before : List ℕ
  before = lines f 1 (map g (take i ys))

  long : 1 + length (map g (take i ys)) ≡ i + 1
  long =
      let n = length-map (take i ys) g in
      let m = length-take-le i ys (omega arith) in
      omega (arith, n, m)

  -- the lines so far, and the next
  pub lines_more : lines f 1 (map g (take (i + 1) ys)) ≡ before ++ f (i + 1) (g y)
  lines_more =
      ap (λ zs. lines f 1 (map g zs)) (take_more ys i y within ∙ ap (λ z. take i ys ++ z ∷ []) (sym read))
      ∙ ap (lines f 1) (map_push g (take i ys) y)
      ∙ lines_append f 1 (map g (take i ys)) (g y ∷ [])
      ∙ ap (λ n. before ++ (f n (g y) ++ [])) long
      ∙ ap (λ t. before ++ t) (append-nil (f (i + 1) (g y)))

  -- the lines so far were printed, and then the next
  pub printed_line : (a b c : Option (List ℕ)) (k l m : Bool) (p q r : List ℕ) → PrintsFrom a k p b l q before → PrintsFrom b l q c m r (f (i + 1) (g y)) → PrintsFrom a k p c m r (lines f 1 (map g (take (i + 1) ys)))
  printed_line a b c k l m p q r so_far next = subst (PrintsFrom a k p c m r) (sym lines_more) (prints_then a b c k l m p q r before (f (i + 1) (g y)) so_far next)

-- all the lines were printed
pub printed_lines : {X Y : Type 0} (f : ℕ → X → List ℕ) (g : Y → X) (ys : List Y) (i : ℕ) → length ys ≤ i → (a b : Option (List ℕ)) (k l : Bool) (p q : List ℕ)
    → PrintsFrom a k p b l q (lines f 1 (map g (take i ys))) → PrintsFrom a k p b l q (lines f 1 (map g ys))
printed_lines f g ys i le a b k l p q so_far = subst (λ zs. PrintsFrom a k p b l q (lines f 1 (map g zs))) (take_all i ys le) so_far

-- lines that were added, and the next
pub grown_line : {X Y : Type 0} (f : ℕ → X → List ℕ) (g : Y → X) (ys : List Y) (i : ℕ) (y : Y) → i < length ys → y ≡ get_or ys i y → (a b c : Option (List ℕ)) → Grows a b (lines f 1 (map g (take i ys))) → Grows b c (f (i + 1) (g y))
    → Grows a c (lines f 1 (map g (take (i + 1) ys)))
grown_line f g ys i y within read a b c p q = subst (Grows a c) (sym (lines_more f g ys i y within read)) (grows_then a b c _ _ p q)
