use Rattle.std.proofs.Common.{Some, sym, ap, ◌∙◌}
use Rattle.bz_sexpr.specs.Forms.{items_in, shape_view}
use Rattle.bz_sexpr.proofs.Laid.{list_of-data_of}
use Rattle.bz_sexpr.proofs.form.Shape.items.Goals as goal

pub returns-in-Items : goal.returns-in-Items
returns-in-Items c = λ span. sym (ap (λ s. items_in (shape_view s span)) c.in-Items.is ∙ ap Some (list_of-data_of _))
