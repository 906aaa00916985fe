use Rattle.std.proofs.Common.{[]}
use Rattle.bz_trace_text.proofs.Printed.{prints_then}
use Rattle.bz_trace_text.proofs.printer.Printer.let_out.Goals as goal

pub returns : goal.returns
returns g c = prints_then _ _ _ _ _ _ _ _ _ [] _ c.put.ensures.gone c.pass.ensures
