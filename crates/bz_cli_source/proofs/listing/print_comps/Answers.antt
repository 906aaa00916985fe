use Rattle.std.proofs.Common.{arith}
use Rattle.bz_flat.specs.Flats.{site_of}
use Rattle.bz_trace_text.proofs.Printed.{printed_nothing}
use Rattle.bz_cli_input.proofs.Lines.{printed_line, printed_lines}
use Rattle.bz_cli_source.specs.Listing.{comp_line}
use Rattle.bz_cli_source.proofs.listing.print_comps.Goals as goal

pub loop-i-init : goal.loop-i-init
loop-i-init g c = printed_nothing _ _ _

pub loop-i-preserved : goal.loop-i-preserved
loop-i-preserved g c =
    printed_line (comp_line c.args.s.now) site_of c.args.comps.now c.loop-i.i c.get.result.now (omega arith) (rw c.at.ensures at c.get.ensures) _ _ _ _ _ _ _ _ _ c.loop-i.invariant c.print_comp.ensures

pub returns : goal.returns
returns g c = printed_lines (comp_line c.args.s.now) site_of c.args.comps.now c.loop-i.i (omega arith) _ _ _ _ _ _ c.loop-i.invariant
