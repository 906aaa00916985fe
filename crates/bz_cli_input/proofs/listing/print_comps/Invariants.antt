use Rattle.std.proofs.Common.{map, take}
use Rattle.bz_flat.specs.Flats.{site_of}
use Rattle.bz_trace_text.specs.Printing.{Prints}
use Rattle.bz_cli_input.specs.Listing.{lines, comp_line}
use Rattle.bz_cli_input.proofs.listing.print_comps.Given as goal

abbrev pub invariant-loop-place : goal.invariant-loop-place
invariant-loop-place g l = Prints (g.W.Write.contents l.initial.out) l.initial.printer (g.W.Write.contents l.out) l.printer (lines comp_line 1 (map site_of (take l.place l.comps)))
