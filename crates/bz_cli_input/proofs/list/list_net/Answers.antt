use Rattle.std.proofs.Common.{inr, sym, ap, ◌∙◌}
use Rattle.std.specs.Option.{option_copied}
use Rattle.bz_cli_input.specs.declared.fault.Fault.TheVariants.{Write}
use Rattle.bz_cli_input.specs.Listed.{IsList}
use Rattle.bz_cli_input.specs.Listing.{list_text}
use Rattle.bz_cli_input.specs.Opening.{RefusesNet}
use Rattle.bz_cli_input.proofs.Answered.{cut_short}
use Rattle.bz_cli_input.proofs.list.list_net.Goals as goal

pub returns-in_err-write_out : goal.returns-in_err-write_out
returns-in_err-write_out g c =
    let opened = c.in_ok-name.ensures.ok in
    let w = c.in_ok-name.flat.wiring in
    let asked = option_copied c.args.asked in
    let list : IsList c.args.text.items asked (list_text c.as_slice.result.now w) = (w, opened.0, ap (λ n. list_text n w) (c.as_slice.ensures.value ∙ sym opened.1)) in
    cut_short Write (λ u list. IsList c.args.text.items asked list) (RefusesNet c.args.text.items asked) _ _ _ c.from_residual-in_err-write_out.ensures.1 tt _ list c.in_err-write_out.ensures.err

pub returns : goal.returns
returns g c =
    let opened = c.in_ok-name.ensures.ok in
    let w = c.in_ok-name.flat.wiring in
    let list : IsList c.args.text.items (option_copied c.args.asked) (list_text c.as_slice.result.now w) = (w, opened.0, ap (λ n. list_text n w) (c.as_slice.ensures.value ∙ sym opened.1)) in
    inr (list_text c.as_slice.result.now w, list, c.in_ok-write_out.ensures.ok)
