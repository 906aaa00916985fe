use Rattle.std.proofs.Common.{map, take}
use Rattle.bz_trace_text.specs.Printing.{Prints}
use Rattle.bz_cli_input.specs.Listing.{lines}
use Rattle.bz_cli_source.specs.PartLists.{numbered_text}
use Rattle.bz_cli_source.proofs.parts.print_parts.Given as goal

abbrev pub invariant-loop-i : goal.invariant-loop-i
invariant-loop-i g l = Prints (g.W.Write.contents l.initial.out) l.initial.printer (g.W.Write.contents l.out) l.printer (lines (numbered_text l.parts l.lines) 1 (map (λ p. p) (take l.i l.parts)))
