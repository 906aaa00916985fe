-- Texts that are listed, with a comma between.
use Rattle.std.proofs.Common.{◌≡◌, ℕ, ◌+◌, ◌-◌, ◌<◌, ◌≤◌, Option, List, [], ◌∷◌, ◌++◌, codes, length, take, drop, get_or, sym, ap, ◌∙◌, subst, arith}
use Rattle.std.specs.List.{flat_map}
use Rattle.std.proofs.lemmas.List.{append-nil, take_all, take_more}
use Rattle.std.proofs.lemmas.Grind.{flat_map-append}
use Rattle.bz_text.specs.Growing.{Grows}
use Rattle.bz_text.proofs.Said.{grows_then}
use Rattle.bz_explore_moves.specs.Objects.{listed}

-- the texts of these, each behind a comma and a blank
abbrev pub all_behind : {X : Type 0} → (X → List ℕ) → List X → List ℕ
all_behind text_of xs = flat_map (λ x. codes ", " ++ text_of x) xs

pub listed_more : {X : Type 0} (text_of : X → List ℕ) (xs : List X) (i : ℕ) (x : X) (a b c d : Option (List ℕ))
    → Grows a b (all_behind text_of (take i xs)) → Grows b c (codes ", ") → Grows c d (text_of (get_or xs i x)) → i < length xs
    → Grows a d (all_behind text_of (take (i + 1) xs))
listed_more text_of xs i x a b c d g h k l =
    let last = get_or xs i x in
    let is : all_behind text_of (take (i + 1) xs) ≡ all_behind text_of (take i xs) ++ (codes ", " ++ text_of last) =
    ap (all_behind text_of) (take_more xs i x l) ∙ flat_map-append (λ x. codes ", " ++ text_of x) (take i xs) (last ∷ [])
    ∙ ap (λ s. all_behind text_of (take i xs) ++ s) (append-nil (codes ", " ++ text_of last)) in
    subst (Grows a d) (sym is) (grows_then a b d _ _ g (grows_then b c d _ _ h k))

pub listed_all : {X : Type 0} (text_of : X → List ℕ) (xs : List X) (x : X) (i : ℕ) (a b c : Option (List ℕ)) → 1 ≤ length xs
    → Grows a b (text_of (get_or xs 0 x)) → Grows b c (all_behind text_of (take i (take (length xs - 1) (drop 1 xs))))
    → length (take (length xs - 1) (drop 1 xs)) ≤ i → Grows a c (listed text_of xs)
listed_all text_of [] x i a b c some g h le = absurd (omega (arith, some))
listed_all text_of (y ∷ xs) x i a b c some g h le =
    let n = length (y ∷ xs) - 1 in
    let whole : take i (take n xs) ≡ xs = take_all i (take n xs) le ∙ take_all n xs (omega arith) in
    grows_then a b c _ _ g (subst (λ s. Grows b c (all_behind text_of s)) whole h)
