-- What a piece of a text spells, by its first byte.
use Rattle.std.proofs.Common.{◌≡◌, ◌≢◌, ℕ, ◌≤◌, ◌^◌, List, [], ◌∷◌, Bool, true, false, cond, ◌==◌, ◌&&◌, nat_lt, Option, Some, None, IsSome, IfSome, refl, sym, ap, ◌∙◌, arith, rules}
use Rattle.std.specs.List.{list_all}
use Rattle.std.specs.Char.{is_ascii_digit}
use Rattle.std.proofs.lemmas.Bool.{ne_eqb}
use Rattle.std.proofs.lemmas.Bool.Decides.{nat_tests}
use Rattle.bz_sexpr.specs.Bytes.{open_paren, quote, is_number, decimal_value}
use Rattle.bz_sexpr.specs.Data.{Leaf, num, symbol, leaf_of, Datum}
use Rattle.bz_sexpr.specs.Nodes.{leaf_in, unmarked, datum_at}
use Rattle.bz_sexpr.specs.Forms.{items_in}
use Rattle.bz_sexpr.specs.declared.node.Node.{Node}
use Rattle.bz_sexpr.proofs.Laid.{list_of-data_of, run_piece, empty_piece}

-- ---- lists, and all others

either_leaf : (d : Bool) (l m : Leaf) → IsSome (cond d (Some l) (Some m))
either_leaf true l m = refl
either_leaf false l m = refl

leaf_by_first : (b : ℕ) (after : List ℕ) → b ≢ open_paren → IsSome (leaf_in (b ∷ after))
unfolding leaf_in
leaf_by_first b after o = rw (ne_eqb b 40 o) (either_leaf (b == quote) _ _)

pub no_list : (piece after : List ℕ) (b : ℕ) → piece ≡ b ∷ after → b ≢ open_paren → IsSome (leaf_in piece)
no_list piece after b e o = rw e (leaf_by_first b after o)

pub nothing_is_no_list : (piece : List ℕ) → piece ≡ [] → IsSome (leaf_in piece)
nothing_is_no_list piece e = rw (empty_piece piece e) refl

pub items_of_list : (o : Option Leaf) (n : Node) (inner : List Datum) → o ≡ None → Some inner ≡ items_in (datum_at o n inner)
items_of_list o n inner e = sym (ap (λ x. items_in (datum_at x n inner)) e ∙ ap Some (list_of-data_of inner))

pub items_of_leaf : (o : Option Leaf) (n : Node) (inner : List Datum) → IsSome o → None ≡ items_in (datum_at o n inner)
items_of_leaf (Some l) n inner h = refl
items_of_leaf None n inner h = absurd cc

-- ---- numbers and symbols

pub unmarked_run : (b : ℕ) (bs : List ℕ) → b ≢ 35 → leaf_of (b ∷ bs) ≡ unmarked (b ∷ bs)
unfolding leaf_of
unmarked_run b bs h = rw (ne_eqb b 35 h) refl

nothing_unmarked : leaf_of [] ≡ unmarked []
unfolding leaf_of
nothing_unmarked = refl

pub no_run : (run : List ℕ) → run ≡ [] → leaf_of run ≡ unmarked run
no_run run e = ap leaf_of e ∙ nothing_unmarked ∙ ap unmarked (sym e)

pub no_mark : (run after : List ℕ) (b : ℕ) → run ≡ b ∷ after → b ≢ 35 → leaf_of run ≡ unmarked run
no_mark run after b e h = ap leaf_of e ∙ unmarked_run b after h ∙ ap unmarked (sym e)

-- a piece that begins with a byte beyond the marks
plain_piece : (piece after : List ℕ) (b : ℕ) → piece ≡ b ∷ after → 48 ≤ b → leaf_in piece ≡ Some (unmarked piece)
plain_piece piece after b e h =
    run_piece piece after b e (λ f. omega (arith, f, h)) (λ f. omega (arith, f, h)) ∙ ap Some (no_mark piece after b e (λ f. omega (arith, f, h)))

number_told : (c : Bool) (m n : ℕ) (l : Leaf) → Some n ≡ cond c (Some m) None → cond c (num m) l ≡ num n
number_told true m n l e = let same : m ≡ n = cc in ap num same
number_told false m n l e = absurd cc

pub number_piece : (piece after : List ℕ) (b n : ℕ) → piece ≡ b ∷ after → 48 ≤ b → Some n ≡ cond (is_number piece) (Some (decimal_value piece)) None → leaf_in piece ≡ Some (num n)
number_piece piece after b n e h is =
    plain_piece piece after b e h ∙ ap Some (number_told (is_number piece) (decimal_value piece) n (symbol piece) is)

pub short_told : (piece after : List ℕ) (b : ℕ) (o : Option ℕ) → piece ≡ b ∷ after → 48 ≤ b → o ≡ cond (is_number piece) (Some (decimal_value piece)) None → IfSome o (λ n. leaf_in piece ≡ Some (num n))
short_told piece after b None e h is = tt
short_told piece after b (Some n) e h is = number_piece piece after b n e h is

no_digit : (b : ℕ) (bs : List ℕ) → is_ascii_digit b ≡ false → unmarked (b ∷ bs) ≡ symbol (b ∷ bs)
unfolding is_number
no_digit b bs e =
    ap (λ c. cond ((c && list_all is_ascii_digit bs) && nat_lt (decimal_value (b ∷ bs)) (2 ^ 128)) (num (decimal_value (b ∷ bs))) (symbol (b ∷ bs))) e

pub word_piece : (piece after : List ℕ) (b : ℕ) → piece ≡ b ∷ after → 97 ≤ b → leaf_in piece ≡ Some (symbol piece)
word_piece piece after b e h =
    let not : is_ascii_digit b ≡ false = search (nat_tests, rules) in
    plain_piece piece after b e (omega (arith, h)) ∙ ap Some (ap unmarked e ∙ no_digit b after not ∙ ap symbol (sym e))
