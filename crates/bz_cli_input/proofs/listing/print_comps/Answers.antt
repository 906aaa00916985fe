use Rattle.std.proofs.Common.{arith}
use Rattle.bz_flat.specs.Flats.{site_of}
use Rattle.bz_trace_text.proofs.Printed.{printed_nothing}
use Rattle.bz_cli_input.specs.Listing.{comp_line}
use Rattle.bz_cli_input.proofs.Lines.{printed_line, printed_lines}
use Rattle.bz_cli_input.proofs.listing.print_comps.Goals as goal

pub loop-place-init : goal.loop-place-init
loop-place-init g c = printed_nothing _ _ _

pub loop-place-preserved : goal.loop-place-preserved
loop-place-preserved g c = printed_line comp_line site_of c.args.comps.now c.loop-place.place c.get.result.now (omega arith) (rw c.at.ensures at c.get.ensures) _ _ _ _ _ _ _ _ _ c.loop-place.invariant c.print_comp.ensures

pub returns : goal.returns
returns g c = printed_lines comp_line site_of c.args.comps.now c.loop-place.place (omega arith) _ _ _ _ _ _ c.loop-place.invariant
