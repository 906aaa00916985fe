use Rattle.std.proofs.Common.{◌≡◌, ◌∙◌, subst, IfOk}
use Rattle.bz_source.proofs.labels.shared.Goals as goal

pub returns-then-has_name : goal.returns-then-has_name
returns-then-has_name c =
    subst (λ t. IfOk c.another.result (λ file. file.value.items ≡ t)) (c.has_name.ensures c.if-has_name.true ∙ c.as_slice.ensures.value) c.another.ensures
