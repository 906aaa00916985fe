use Rattle.bz_trace_text.proofs.Printed.{prints_on}
use Rattle.bz_trace_text.proofs.printer.Printer.text.Goals as goal

pub returns : goal.returns
returns g c = rw c.text.ensures (prints_on _ _ _ _ _ _ c.args.text.now c.make_room.ensures.gone)
