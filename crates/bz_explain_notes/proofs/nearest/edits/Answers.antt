use Rattle.std.proofs.Common.{◌≡◌, ◌∙◌, map, subst, IfOk}
use Rattle.std.specs.Char.{to_ascii_lowercase}
use Rattle.bz_explain_notes.specs.Edits.{distance}
use Rattle.bz_explain_notes.proofs.nearest.edits.Goals as goal

pub returns : goal.returns
returns c =
    let e = c.as_slice.ensures.value ∙ c.in_ok-from.ensures in
    let f = c.as_slice-2.ensures.value ∙ c.in_ok-to.ensures in
    let n = c.generic_levenshtein.result in
    subst (λ t. IfOk n (λ d. d ≡ distance t (map to_ascii_lowercase c.args.to.now))) e
    (subst (λ t. IfOk n (λ d. d ≡ distance c.as_slice.result.now t)) f c.generic_levenshtein.ensures.value)
