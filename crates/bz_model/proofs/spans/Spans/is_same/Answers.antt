use Rattle.std.proofs.Common.{rules, ◌≡◌, ◌∙◌, sym, ap, true}
use Rattle.std.specs.Bool.{Decides}
use Rattle.std.specs.Arc.{arc_value}
use Rattle.std.proofs.lemmas.Slice.Eq.{slice_eq-Decides}
use Rattle.bz_model.specs.declared.spans.Span.{Span}
use Rattle.bz_model.specs.declared.spans.Table.{Table}
use Rattle.bz_model.proofs.spans.Spans.is_same.Goals as goal

pub returns : goal.returns
returns c =
    let mine : c.as_slice.result.now ≡ c.args.self.now = c.as_slice.ensures.value ∙ ap (λ (t : Table). t.list.items) c.deref.ensures ∙ c.self.view_is in
    let other : c.as_slice-2.result.now ≡ c.args.other.now = c.as_slice-2.ensures.value ∙ ap (λ (t : Table). t.list.items) c.deref-2.ensures ∙ c.other.view_is in
    let same : Decides c.eq.result (c.as_slice.result.now ≡ c.as_slice-2.result.now) = slice_eq-Decides (λ (a b : Span). (search rules, search rules)) _ _ _ c.eq.ensures in
    (λ yes. sym mine ∙ same.0 yes ∙ other, λ is. same.1 (mine ∙ is ∙ sym other))
