use Rattle.std.proofs.Common.{arith}
use Rattle.bz_model.specs.Names.{external}
use Rattle.bz_model.specs.Nets.{chan_in}
use Rattle.bz_trace_text.proofs.Printed.{printed_nothing}
use Rattle.bz_cli_input.specs.Listing.{port_line}
use Rattle.bz_cli_input.proofs.Lines.{printed_line, printed_lines}
use Rattle.bz_cli_input.proofs.listing.print_ports.Goals as goal

pub loop-place-init : goal.loop-place-init
loop-place-init g c = printed_nothing _ _ _

pub loop-place-preserved : goal.loop-place-preserved
loop-place-preserved g c =
    printed_line (λ k port. port_line k port (chan_in c.args.chans.now k)) external c.args.ports.now c.loop-place.place c.index-ports-place.result c.loop-place-test.true c.index-ports-place.is _ _ _ _ _ _ _ _ _ c.loop-place.invariant (rw c.chan_at.ensures at c.print_port.ensures)

pub returns : goal.returns
returns g c = printed_lines (λ k port. port_line k port (chan_in c.args.chans.now k)) external c.args.ports.now c.loop-place.place (omega arith) _ _ _ _ _ _ c.loop-place.invariant
