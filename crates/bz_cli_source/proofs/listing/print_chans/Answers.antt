use Rattle.std.proofs.Common.{arith}
use Rattle.bz_source.specs.Views.{path_at_of}
use Rattle.bz_trace_text.proofs.Printed.{printed_nothing}
use Rattle.bz_cli_input.proofs.Lines.{printed_line, printed_lines}
use Rattle.bz_cli_source.specs.Listing.{chan_line}
use Rattle.bz_cli_source.proofs.listing.print_chans.Goals as goal

pub loop-i-init : goal.loop-i-init
loop-i-init g c = printed_nothing _ _ _

pub loop-i-preserved : goal.loop-i-preserved
loop-i-preserved g c =
    printed_line (chan_line c.args.net.now c.args.s.now) path_at_of c.args.places.now c.loop-i.i c.index-places-i.result c.loop-i-test.true c.index-places-i.is _ _ _ _ _ _ _ _ _ c.loop-i.invariant c.print_chan.ensures

pub returns : goal.returns
returns g c = printed_lines (chan_line c.args.net.now c.args.s.now) path_at_of c.args.places.now c.loop-i.i (omega arith) _ _ _ _ _ _ c.loop-i.invariant
