-- A text, cut behind its first line.
use Rattle.std.proofs.Common.{◌≡◌, ◌<◌, ◌⊎◌, inl, inr, ℕ, zero, suc, ◌==◌, ◌&&◌, ◌≢◌, drop, arith, Bool, true, false, not, cond, Option, None, Some, List, [], ◌∷◌, ◌++◌, length, refl, sym, ap, subst, ◌∙◌}
use Rattle.std.specs.List.{AllPass, list_all}
use Rattle.std.proofs.lemmas.List.{append-nil}
use Rattle.std.proofs.lemmas.List.Sums.{list_all-from_AllPass}
use Rattle.bz_model.specs.Names.{numbered}
use Rattle.bz_source.specs.FileLines.{begun_with, lines_of}

-- no byte ends a line
abbrev pub in_line : ℕ → Bool
in_line b = not (b == 10)

split : (x y : Bool) → (x && y) ≡ true → (x ≡ true) × (y ≡ true)
split true y e = (refl, e)
split false y e = absurd cc

opposite : (x : Bool) → not x ≡ true → x ≡ false
opposite true e = absurd cc
opposite false e = refl

not_end : (b : ℕ) → in_line b ≡ true → (b == 10) ≡ false
not_end b e = opposite (b == 10) e

-- a line that ends
ended : (line rest : List ℕ) → list_all in_line line ≡ true → lines_of (line ++ 10 ∷ rest) ≡ line ∷ lines_of rest
ended [] rest e = refl
ended (b ∷ line) rest e =
    let parts = split (in_line b) (list_all in_line line) e in
    ap (λ x. cond x ([] ∷ lines_of (line ++ 10 ∷ rest)) (begun_with b (lines_of (line ++ 10 ∷ rest)))) (not_end b parts.0) ∙ ap (begun_with b) (ended line rest parts.1)

-- a last line that does not
last : (b : ℕ) (line : List ℕ) → list_all in_line (b ∷ line) ≡ true → lines_of (b ∷ line) ≡ (b ∷ line) ∷ []
last b [] e = ap (λ x. cond x ([] ∷ []) (begun_with b [])) (not_end b (split (in_line b) true e).0)
last b (c ∷ line) e =
    let parts = split (in_line b) (list_all in_line (c ∷ line)) e in
    ap (λ x. cond x ([] ∷ lines_of (c ∷ line)) (begun_with b (lines_of (c ∷ line)))) (not_end b parts.0) ∙ ap (begun_with b) (last c line parts.1)

whole_last : (l : List ℕ) → 0 < length l → list_all in_line l ≡ true → lines_of l ≡ l ∷ []
whole_last [] some e = absurd (omega (arith, some))
whole_last (b ∷ l) some e = last b l e

-- the first line and what stands behind its line feed
cut_ended : (text line others rest : List ℕ) → line ++ others ≡ text → AllPass in_line line → others ≡ 10 ∷ rest → lines_of text ≡ line ∷ lines_of rest
cut_ended text line others rest whole plain is =
    ap lines_of (sym whole ∙ ap (λ o. line ++ o) is) ∙ ended line rest (list_all-from_AllPass in_line line plain)

pub cut_behind : (text line others : List ℕ) → line ++ others ≡ text → AllPass in_line line → (others ≡ []) ⊎ ((rest : List ℕ) × (others ≡ 10 ∷ rest)) → length others ≢ 0 → lines_of text ≡ line ∷ lines_of (drop 1 others)
cut_behind text line others whole plain ends some = elim ends [
  | inl none ↦ absurd (some (ap length none))
  | inr (rest, is) ↦ cut_ended text line others rest whole plain is ∙ ap (λ o. line ∷ lines_of (drop 1 o)) (sym is)
]

no_length : (xs : List ℕ) → length xs ≡ 0 → xs ≡ []
no_length [] e = refl
no_length (x ∷ xs) e = absurd (omega (arith, e))

pub cut_last : (text line others : List ℕ) → 0 < length text → line ++ others ≡ text → AllPass in_line line → length others ≡ 0 → lines_of text ≡ line ∷ lines_of others
cut_last text line others some whole plain empty =
    let none = no_length others empty in
    let is : line ≡ text = sym (append-nil line) ∙ ap (λ o. line ++ o) (sym none) ∙ whole in
    ap lines_of (sym is) ∙ whole_last line (subst (λ t. 0 < length t) (sym is) some) (list_all-from_AllPass in_line line plain) ∙ ap (λ o. line ∷ lines_of o) (sym none)

-- a line further on is one of those behind
pub further : (rest line behind : List ℕ) (left next : ℕ) → lines_of rest ≡ line ∷ lines_of behind → left ≡ suc next → 0 < next → numbered (lines_of rest) left ≡ numbered (lines_of behind) next
further rest line behind left zero cut is some = absurd (omega (arith, some))
further rest line behind left (suc n) cut is some = ap (λ k. numbered (lines_of rest) k) is ∙ ap (λ ls. numbered ls (suc (suc n))) cut

pub first_is : (rest line behind : List ℕ) → lines_of rest ≡ line ∷ lines_of behind → numbered (lines_of rest) 1 ≡ Some line
first_is rest line behind cut = ap (λ ls. numbered ls 1) cut

pub none_left : (rest : List ℕ) (left : ℕ) → length rest ≡ 0 → numbered (lines_of rest) left ≡ None
none_left rest zero empty = refl
none_left rest (suc n) empty = ap (λ r. numbered (lines_of r) (suc n)) (no_length rest empty)
