use Rattle.bz_trace_text.proofs.Printed.{printed_failed, printed_out}
use Rattle.bz_trace_text.proofs.printer.Printer.put.Goals as goal

pub returns-then-self-clause-gone : goal.returns-then-self-clause-gone
returns-then-self-clause-gone g c = printed_failed _ _ _ _ _ c.if-self.true

pub returns-else-self-clause-gone : goal.returns-else-self-clause-gone
returns-else-self-clause-gone g c = printed_out _ _ c.put.result _ _ _ _ c.if-self.false c.put.ensures.empty c.is_err-self.ensures.value c.put.ensures.out
