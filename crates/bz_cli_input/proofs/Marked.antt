-- Marks that are set one after another.
use Rattle.std.proofs.Common.{◌≡◌, ℕ, ◌+◌, ◌<◌, ◌||◌, Bool, true, false, List, [], ◌∷◌, ◌++◌, length, get_or, take, refl, sym, ap, ◌∙◌, arith}
use Rattle.std.proofs.lemmas.List.{take_more}
use Rattle.std.proofs.lemmas.List.Folds.{list_any-append}
use Rattle.std.specs.List.{list_any}
use Rattle.bz_cli_input.specs.Marking.{Marks}

pub or_false : (b : Bool) → (b || false) ≡ b
or_false true = refl
or_false false = refl

or_assoc : (a b c : Bool) → ((a || b) || c) ≡ (a || (b || c))
or_assoc true b c = refl
or_assoc false b c = refl

-- no marks are set
pub marks_none : (used : List Bool) → Marks used used (λ n. false)
marks_none used = record { count = refl; each = λ n lt. sym (or_false (get_or used n false)) }

-- those of the elements so far, and then of the next
pub marks_more : {X : Type 0} (test : ℕ → X → Bool) (xs : List X) (i : ℕ) (x : X) (a b c : List Bool) → i < length xs → x ≡ get_or xs i x → Marks a b (λ n. list_any (test n) (take i xs)) → Marks b c (λ n. test n x)
    → Marks a c (λ n. list_any (test n) (take (i + 1) xs))
marks_more test xs i x a b c lt is first next = record {
  count = next.count ∙ first.count;
  each = λ n within.
      let taken : take (i + 1) xs ≡ take i xs ++ x ∷ [] = take_more xs i x lt ∙ ap (λ y. take i xs ++ y ∷ []) (sym is) in
      let told : list_any (test n) (take (i + 1) xs) ≡ (list_any (test n) (take i xs) || test n x) =
      ap (list_any (test n)) taken ∙ list_any-append (test n) (take i xs) (x ∷ []) ∙ ap (λ t. list_any (test n) (take i xs) || t) (or_false (test n x)) in
      next.each n (omega (arith, within, first.count))
      ∙ ap (λ t. t || test n x) (first.each n within)
      ∙ or_assoc (get_or a n false) (list_any (test n) (take i xs)) (test n x)
      ∙ ap (λ t. get_or a n false || t) (sym told);
}
