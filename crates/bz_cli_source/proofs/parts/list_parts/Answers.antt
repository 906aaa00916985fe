use Rattle.std.proofs.Common.{inr, ap}
use Rattle.bz_sexpr.specs.Forms.{forest_view}
use Rattle.bz_cli_input.specs.declared.fault.Fault.TheVariants.{Write}
use Rattle.bz_cli_input.specs.Opening.{RefusesText}
use Rattle.bz_cli_input.proofs.Answered.{cut_short}
use Rattle.bz_cli_source.specs.PartLists.{IsPartList, parts_text}
use Rattle.bz_cli_source.proofs.parts.list_parts.Goals as goal

pub returns-in_err-write_out : goal.returns-in_err-write_out
returns-in_err-write_out g c =
    let list : IsPartList c.args.text.now (parts_text c.in_ok-parts.parts c.as_slice.result.now) = record {
      listed = c.in_ok-parts.parts;
      names = record { forms = forest_view c.in_ok-forest.forest; spelt = c.in_ok-forest.ensures.right; read = rw c.forms.ensures at c.in_ok-parts.ensures.ok };
      places = c.in_ok-lines.lines.items;
      stand = rw c.forms-2.ensures at c.in_ok-lines.ensures;
      list_is = ap (parts_text c.in_ok-parts.parts) c.as_slice.ensures.value;
    } in
    cut_short Write (λ u list. IsPartList c.args.text.now list) (RefusesText c.args.text.now) _ _ _ c.from_residual-in_err-write_out.ensures.1 tt _ list c.in_err-write_out.ensures.err

pub returns : goal.returns
returns g c =
    let list : IsPartList c.args.text.now (parts_text c.in_ok-parts.parts c.as_slice.result.now) = record {
      listed = c.in_ok-parts.parts;
      names = record { forms = forest_view c.in_ok-forest.forest; spelt = c.in_ok-forest.ensures.right; read = rw c.forms.ensures at c.in_ok-parts.ensures.ok };
      places = c.in_ok-lines.lines.items;
      stand = rw c.forms-2.ensures at c.in_ok-lines.ensures;
      list_is = ap (parts_text c.in_ok-parts.parts) c.as_slice.ensures.value;
    } in
    inr (parts_text c.in_ok-parts.parts c.as_slice.result.now, list, c.in_ok-write_out.ensures.ok)
