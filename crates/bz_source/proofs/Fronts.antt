-- Lists without their front.
use Rattle.std.proofs.Common.{◌≡◌, ℕ, suc, List, [], ◌∷◌, drop, sym, ap, ◌∙◌}
use Rattle.std.proofs.Math.Seq.{drop-nil}

pub drop_one : {X : Type 0} (xs : List X) (n m : ℕ) → n ≡ suc m → drop n xs ≡ drop m (drop 1 xs)
drop_one [] n m e = drop-nil n ∙ sym (drop-nil m)
drop_one (x ∷ xs) n m e = ap (λ k. drop k (x ∷ xs)) e
