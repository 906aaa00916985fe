use Rattle.std.proofs.Common.{ap, ◌∙◌}
use Rattle.bz_model.specs.Rows.{KindRow}
use Rattle.bz_source.specs.Details.{is_variable_name}
use Rattle.bz_source.proofs.detail.is_variable.Goals as goal

pub returns-in-Some : goal.returns-in-Some
returns-in-Some c = ap (λ (r : KindRow). r.is_variable) c.row_named.ensures ∙ ap is_variable_name c.in-Some.ensures
