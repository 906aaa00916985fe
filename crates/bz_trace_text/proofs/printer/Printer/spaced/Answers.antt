use Rattle.std.proofs.Common.{arith}
use Rattle.bz_model.specs.Words.{spaced}
use Rattle.bz_trace_text.proofs.Printed.{printed_nothing, printed_all, prints_more}
use Rattle.bz_trace_text.proofs.printer.Printer.spaced.Goals as goal

pub loop-number-init : goal.loop-number-init
loop-number-init g c = printed_nothing _ _ _

pub loop-number-preserved : goal.loop-number-preserved
loop-number-preserved g c =
    prints_more spaced c.args.numbers.now c.loop-number.number-index _ (omega arith) _ _ _ _ _ _ _ _ _ c.loop-number.invariant c.space.ensures

pub returns : goal.returns
returns g c = printed_all spaced c.args.numbers.now c.loop-number.number-index (omega arith) _ _ _ _ _ _ c.loop-number.invariant
