-- One mark more, of a session that is left or not.
use Rattle.std.proofs.Common.{◌≡◌, ℕ, ◌+◌, ◌<◌, Bool, false, not, Some, List, length, set, get_or, ap, ◌∙◌, arith, inl, inr}
use Rattle.std.specs.Prelude.{slice_get}
use Rattle.std.proofs.lemmas.Bool.Decides.{eqb_tells}
use Rattle.std.proofs.lemmas.List.{get_or-set_same, get_or-set_other, length-set}
use Rattle.std.proofs.lemmas.Option.{get_or_from_slice_get, slice_get-get_or, slice_get_within}
use Rattle.bz_past.specs.declared.standing.Standing.{Standing}

-- marked of the first n are those that are not left
abbrev pub MarksFirst : (Standing → Bool) → List Standing → List Bool → ℕ → Type 0
MarksFirst left standings marks n = (place : ℕ) (standing : Standing) → place < n → slice_get standings place ≡ Some standing → slice_get marks place ≡ Some (not (left standing))

pub one_more : (left : Standing → Bool) (standings : List Standing) (marks : List Bool) (n : ℕ) (s : Standing) → n < length marks → slice_get standings n ≡ Some s
    → MarksFirst left standings marks n → MarksFirst left standings (set marks n (not (left s))) (n + 1)
one_more left standings marks n s lt at first place standing below is =
    let b = not (left s) in
    let size = length-set marks n b in
    elim (eqb_tells place n) [
      | inl same ↦
          let here : get_or (set marks n b) place false ≡ b = ap (λ k. get_or (set marks n b) k false) same.1 ∙ get_or-set_same marks n b false lt in
          let one : s ≡ standing = cc in
          slice_get-get_or (set marks n b) place false (omega (arith, same.1, lt, size)) ∙ ap Some (here ∙ ap (λ x. not (left x)) one)
      | inr other ↦
          let mark = first place standing (omega (arith, below, other.1)) is in
          let within = slice_get_within marks place (not (left standing)) mark in
          let read = get_or_from_slice_get marks place (not (left standing)) false mark in
          slice_get-get_or (set marks n b) place false (omega (arith, within, size)) ∙ ap Some (get_or-set_other marks n place b false other.1 ∙ read)
    ]
