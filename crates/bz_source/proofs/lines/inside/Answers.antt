use Rattle.std.proofs.Common.{◌∙◌, ap, sym, Some}
use Rattle.bz_sexpr.specs.Data.{span_of}
use Rattle.bz_sexpr.specs.Forms.{form_view, shape_view}
use Rattle.bz_breeze.specs.Turns.{inside}
use Rattle.bz_breeze.proofs.Reading.{list_of-data_of}
use Rattle.bz_source.proofs.lines.inside.Goals as goal

pub returns-in-Items : goal.returns-in-Items
returns-in-Items c =
    let span = span_of (form_view c.args.form) in
    sym (ap inside (sym c.shape.ensures ∙ ap (λ s. shape_view s span) c.in-Items.is) ∙ ap Some (list_of-data_of _))
