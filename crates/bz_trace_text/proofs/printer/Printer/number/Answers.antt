use Rattle.std.proofs.Common.{decimal}
use Rattle.bz_trace_text.proofs.Printed.{prints_on}
use Rattle.bz_trace_text.proofs.printer.Printer.number.Goals as goal

pub returns : goal.returns
returns g c = rw c.value.ensures.text (prints_on _ _ _ _ _ _ (decimal c.args.n) c.make_room.ensures.gone)
