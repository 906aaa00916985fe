use Rattle.std.proofs.Common.{◌∙◌, sym, drop, arith}
use Rattle.bz_trace_text.specs.Reading.{most_number}
use Rattle.bz_trace_text.proofs.Firings.{number_ends, first_digit}
use Rattle.bz_trace_text.proofs.firing.number_from.Goals as goal

pub returns-clause-reads : goal.returns-clause-reads
returns-clause-reads c = λ ends.
    let first = first_digit most_number c.args.from c.from.result c.args.text.now (omega (arith, c.requires)) (omega (arith, c.if-byte-lt49.false)) (omega (arith, c.if-byte-gt57.false)) (sym c.from.ensures) (omega (arith, c.from.ensures, c.if-byte-gt57.false)) in
    number_ends most_number c.digits_from-n.result.0 (drop c.args.from c.args.text.now) (drop c.digits_from-n.result.1 c.args.text.now) (first ∙ c.digits_from-n.ensures.reads most_number (omega arith)) ends
