use Rattle.std.proofs.Common.{◌∙◌}
use Rattle.bz_trace_text.proofs.Printed.{shortened}
use Rattle.bz_trace_text.proofs.printer.compose.Goals as goal

pub returns-in-Err-clause-none : goal.returns-in-Err-clause-none
returns-in-Err-clause-none c = λ is. c.shorten.ensures ∙ rw c.len-len.ensures (shortened _ _ _ c.in-Err.ensures)
