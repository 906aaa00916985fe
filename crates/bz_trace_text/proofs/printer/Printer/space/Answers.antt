use Rattle.std.proofs.Common.{append_assoc, codes, decimal}
use Rattle.bz_model.specs.Words.{spaced}
use Rattle.bz_trace_text.proofs.Printed.{prints_on}
use Rattle.bz_trace_text.proofs.printer.Printer.space.Goals as goal

pub returns : goal.returns
returns g c = rw (c.number.ensures.text, c.byte.ensures.text, append_assoc c.make_room.new.self.page (codes " ") (decimal c.args.number)) (prints_on _ _ _ _ _ _ (spaced c.args.number) c.make_room.ensures.gone)
