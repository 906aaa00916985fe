use Rattle.std.proofs.Common.{inr, ap}
use Rattle.std.specs.Option.{option_copied}
use Rattle.bz_cli_input.specs.declared.fault.Fault.TheVariants.{Write}
use Rattle.bz_cli_input.specs.Opening.{RefusesNet}
use Rattle.bz_cli_input.proofs.Answered.{cut_short}
use Rattle.bz_cli_source.specs.Listed.{IsPathList}
use Rattle.bz_cli_source.specs.Listing.{paths_text}
use Rattle.bz_cli_source.proofs.Placed.{placed}
use Rattle.bz_cli_source.proofs.paths.list_text.Goals as goal

pub returns-in_err-write_out : goal.returns-in_err-write_out
returns-in_err-write_out g c =
    let asked = option_copied c.args.asked in
    let name = c.in_ok-flat.name.items in
    let net = c.into_pieces.result in
    let s = c.in_ok-flat.survey in
    let is = placed c.args.text.now asked name net s _ c.into_pieces.ensures.wiring c.in_ok-flat.ensures.survey c.into_pieces.ensures.wired c.into_pieces.ensures.ends_of in
    let list : IsPathList c.args.text.now asked (paths_text net s c.as_slice.result.now) = (name, net, s, is, ap (paths_text net s) c.as_slice.ensures.value) in
    cut_short Write (λ u list. IsPathList c.args.text.now asked list) (RefusesNet c.args.text.now asked) _ _ _ c.from_residual-in_err-write_out.ensures.1 tt _ list c.in_err-write_out.ensures.err

pub returns : goal.returns
returns g c =
    let asked = option_copied c.args.asked in
    let name = c.in_ok-flat.name.items in
    let net = c.into_pieces.result in
    let s = c.in_ok-flat.survey in
    let is = placed c.args.text.now asked name net s _ c.into_pieces.ensures.wiring c.in_ok-flat.ensures.survey c.into_pieces.ensures.wired c.into_pieces.ensures.ends_of in
    let list : IsPathList c.args.text.now asked (paths_text net s c.as_slice.result.now) = (name, net, s, is, ap (paths_text net s) c.as_slice.ensures.value) in
    inr (paths_text net s c.as_slice.result.now, list, c.in_ok-write_out.ensures.ok)
