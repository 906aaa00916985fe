use Rattle.std.proofs.Common.{◌≡◌, ◌∙◌, true, get_or, drop, arith, sym}
use Rattle.std.specs.Char.{is_ascii_digit}
use Rattle.bz_trace_text.specs.Reading.{most_value}
use Rattle.bz_trace_text.proofs.Numbers.{digit_range}
use Rattle.bz_trace_text.proofs.Firings.{number_ends, first_digit, zero_there}
use Rattle.bz_trace_text.proofs.firing.value_from.Goals as goal

pub returns-then-byte-eq48-clause-reads : goal.returns-then-byte-eq48-clause-reads
returns-then-byte-eq48-clause-reads c = λ ends. zero_there most_value c.args.from c.args.text.now (omega (arith, c.requires)) c.if-byte-eq48.true

pub returns-else-byte-eq48-clause-reads : goal.returns-else-byte-eq48-clause-reads
returns-else-byte-eq48-clause-reads c = λ ends.
    let is : is_ascii_digit (get_or c.args.text.now c.args.from 0) ≡ true = sym c.is_ascii_digit.ensures.value ∙ c.if-not-is_ascii_digit.false in
    let range = digit_range (get_or c.args.text.now c.args.from 0) is in
    let first = first_digit most_value c.args.from c.from.result c.args.text.now (omega (arith, c.requires)) (omega (arith, range, c.if-byte-eq48.false)) (omega (arith, range)) (sym c.from.ensures) (omega (arith, c.from.ensures, range)) in
    number_ends most_value c.digits_from.result.0 (drop c.args.from c.args.text.now) (drop c.digits_from.result.1 c.args.text.now) (first ∙ c.digits_from.ensures.reads most_value (omega arith)) ends
