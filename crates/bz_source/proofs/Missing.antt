-- A part that has a net has places.
use Rattle.std.proofs.Common.{◌≡◌, ℕ, ◌<◌, ◌≤◌, ◌⊎◌, inl, inr, Option, None, Some, List, length, sym, ap, ◌∙◌, arith, slice_get, get_or, option_and_then}
use Rattle.std.proofs.lemmas.Option.{slice_get_cases}
use Rattle.bz_breeze_records.specs.declared.part.Part.{Part}
use Rattle.bz_model.specs.Nets.{Wiring}
use Rattle.bz_elab.specs.Paths.{copied, named}
use Rattle.bz_elab.specs.Numbers.{number_at, number_named}
use Rattle.bz_elab.specs.Refusals.{Elaborated}
use Rattle.bz_elab.proofs.Checking.{copied_number, number_within}
use Rattle.bz_elab.proofs.Numbering.{named_number, named_within}
use Rattle.bz_source.specs.Found.{Misses}
use Rattle.bz_source.specs.declared.error.PlacesError.{PlacesError}
use Rattle.bz_source.specs.declared.error.PlacesError.TheVariants.{NoPart, TooDeep, Memory}

stands_at : (ps : List Part) (j : ℕ) → j < length ps → (p : Part) × (slice_get ps j ≡ Some p)
stands_at ps j lt = elim ((slice_get_cases ps j).1) [
  | inl (p, within, is, got) ↦ (p, is)
  | inr (past, none) ↦ absurd (omega (arith, lt, past))
]

pub never_misses : (parts : List Part) (name : List ℕ) (w : Wiring) (e : PlacesError) → Elaborated parts name w → Misses parts name e → ⊥
never_misses parts name w NoPart net none =
    let unnamed : named parts name ≡ None = named_number parts name ∙ ap (option_and_then (slice_get parts)) none in
    let is = sym unnamed ∙ net.is_named in cc
never_misses parts name w TooDeep net (n, is, (path, m, at, deep)) =
    let top_is : slice_get parts n ≡ Some net.top = ap (option_and_then (slice_get parts)) (sym is) ∙ sym (named_number parts name) ∙ net.is_named in
    let (part, part_is) = stands_at parts m (number_within parts n path m (named_within parts name n is) at) in
    net.within (record {
      path = path;
      part = part;
      reached = copied_number parts n net.top path top_is ∙ ap (option_and_then (slice_get parts)) at ∙ part_is;
      long = deep;
    })
never_misses parts name w Memory net misses = misses
