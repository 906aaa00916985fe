use Rattle.std.proofs.Common.{◌++◌, ◌∷◌, [], ap₂, sym, ◌∙◌}
use Rattle.std.proofs.lemmas.List.{map-append}
use Rattle.bz_complete.proofs.Naming.{labels_next}
use Rattle.bz_complete.proofs.names.labels_of.Goals as goal

pub loop-place-preserved : goal.loop-place-preserved
loop-place-preserved c =
    rw c.in_ok-push.ensures.items
    (map-append (λ form. form.items) c.loop-place.labels.items (c.in_ok-label_of.field-0 ∷ [])
    ∙ ap₂ (λ xs x. xs ++ x ∷ []) c.loop-place.invariant c.in_ok-label_of.ensures ∙ sym (labels_next c.args.survey.now c.loop-place.place))
