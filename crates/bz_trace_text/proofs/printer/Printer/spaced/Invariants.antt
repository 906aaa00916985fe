use Rattle.std.proofs.Common.{take}
use Rattle.std.specs.List.{flat_map}
use Rattle.bz_model.specs.Words.{spaced}
use Rattle.bz_trace_text.specs.Printing.{Prints}
use Rattle.bz_trace_text.proofs.printer.Printer.spaced.Given as goal

abbrev pub invariant-loop-number : goal.invariant-loop-number
invariant-loop-number g l = Prints (g.W.Write.contents l.initial.out) l.initial.self (g.W.Write.contents l.out) l.self (flat_map spaced (take l.number-index l.numbers))
