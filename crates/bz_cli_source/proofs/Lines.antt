-- The pieces of a line.
use Rattle.std.proofs.Common.{◌≡◌, ℕ, zero, suc, ◌+◌, ◌<◌, ◌≤◌, Bool, false, not, Option, None, Some, List, [], ◌∷◌, ◌++◌, length, map, get_or, refl, sym, ap, ◌∙◌, arith, slice_get, if◌then◌else◌}
use Rattle.std.proofs.lemmas.List.{length-map}
use Rattle.std.proofs.lemmas.Option.{slice_get_past}
use Rattle.bz_model.specs.declared.names.Port.{Port}
use Rattle.bz_model.specs.Names.{External, external, numbered, port_sense}
use Rattle.bz_model.specs.Nets.{Site}
use Rattle.bz_source.specs.Found.{PathAt}
use Rattle.bz_source.specs.declared.survey.Survey.{Survey}
use Rattle.bz_cli_source.specs.Listing.{comp_line, host_holds, placed_comp}

pub comp_line_is : (s : Survey) (k : ℕ) (site : Site) (at : PathAt) → numbered s.places.comps k ≡ Some at → comp_line s k site ≡ placed_comp s k site at
comp_line_is s k site at e = rw (e, comp_line) refl

pub comp_line_none : (s : Survey) (k : ℕ) (site : Site) → numbered s.places.comps k ≡ None → comp_line s k site ≡ []
comp_line_none s k site e = rw (e, comp_line) refl

external_at : (ports : List Port) (i : ℕ) (p : Port) → i < length ports → p ≡ get_or ports i p → slice_get (map external ports) i ≡ Some (external p)
external_at [] i p lt is = absurd (omega arith)
external_at (q ∷ qs) zero p lt is = ap (λ x. Some (external x)) (sym is)
external_at (q ∷ qs) (suc i) p lt is = external_at qs i p (omega arith) is

pub host_some : (ports : List Port) (i : ℕ) (p : Port) (passive : Bool) → i < length ports → p ≡ get_or ports i p → host_holds (map external ports) (i + 1) passive ≡ (if p.passive then not passive else passive)
host_some ports i p passive lt is =
    let n : i + 1 ≡ suc i = omega arith in
    ap (λ k. host_holds (map external ports) k passive) n ∙ rw (external_at ports i p lt is, host_holds) refl

pub host_none : (ports : List Port) (i : ℕ) (passive : Bool) → length ports ≤ i → host_holds (map external ports) (i + 1) passive ≡ false
host_none ports i passive le =
    let n : i + 1 ≡ suc i = omega arith in
    let past : slice_get (map external ports) i ≡ None = slice_get_past (map external ports) i (omega (arith, le, length-map ports external)) in
    ap (λ k. host_holds (map external ports) k passive) n ∙ rw (past, host_holds) refl
