-- The nodes are those of the components in no box, one after another.
use Rattle.std.proofs.Common.{◌≡◌, ℕ, suc, ◌+◌, Bool, true, false, Option, List, [], ◌∷◌, ◌++◌, is_none, sym, ap, ◌∙◌, arith, if◌then◌else◌}
use Rattle.bz_draw.specs.Drawn.{alone, box_of}

by_test : (boxes : List (Option ℕ)) (i : ℕ) (b : Bool) → is_none (box_of boxes (i + 1)) ≡ b → alone boxes (i + 1) ≡ (if b then alone boxes i ++ (i + 1) ∷ [] else alone boxes i)
by_test boxes i b e =
    let n : i + 1 ≡ suc i = omega arith in
    let f : is_none (box_of boxes (suc i)) ≡ b = ap (λ j. is_none (box_of boxes j)) (sym n) ∙ e in
    ap (alone boxes) n ∙ ap (λ t. if t then alone boxes i ++ suc i ∷ [] else alone boxes i) f ∙ ap (λ j. if b then alone boxes i ++ j ∷ [] else alone boxes i) (sym n)

pub alone_more : (boxes : List (Option ℕ)) (i : ℕ) → is_none (box_of boxes (i + 1)) ≡ true → alone boxes (i + 1) ≡ alone boxes i ++ (i + 1) ∷ []
alone_more boxes i e = by_test boxes i true e

pub alone_same : (boxes : List (Option ℕ)) (i : ℕ) → is_none (box_of boxes (i + 1)) ≡ false → alone boxes (i + 1) ≡ alone boxes i
alone_same boxes i e = by_test boxes i false e
