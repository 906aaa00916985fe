use Rattle.std.proofs.Common.{map, take}
use Rattle.bz_source.specs.Views.{path_at_of}
use Rattle.bz_trace_text.specs.Printing.{Prints}
use Rattle.bz_cli_input.specs.Listing.{lines}
use Rattle.bz_cli_source.specs.Listing.{chan_line}
use Rattle.bz_cli_source.proofs.listing.print_chans.Given as goal

abbrev pub invariant-loop-i : goal.invariant-loop-i
invariant-loop-i g l = Prints (g.W.Write.contents l.initial.out) l.initial.printer (g.W.Write.contents l.out) l.printer (lines (chan_line l.net l.s) 1 (map path_at_of (take l.i l.places)))
