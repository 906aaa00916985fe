use Rattle.std.proofs.Common.{map, take}
use Rattle.bz_model.specs.Names.{external}
use Rattle.bz_model.specs.Nets.{chan_in}
use Rattle.bz_trace_text.specs.Printing.{Prints}
use Rattle.bz_cli_input.specs.Listing.{lines, port_line}
use Rattle.bz_cli_source.proofs.parts.print_ports.Given as goal

abbrev pub invariant-loop-place : goal.invariant-loop-place
invariant-loop-place g l = Prints (g.W.Write.contents l.initial.out) l.initial.printer (g.W.Write.contents l.out) l.printer (lines (λ k port. port_line k port (chan_in l.chans k)) 1 (map external (take l.place l.ports)))
