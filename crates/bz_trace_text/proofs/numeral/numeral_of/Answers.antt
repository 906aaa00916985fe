use Rattle.std.proofs.Common.{decimal, arith}
use Rattle.std.proofs.lemmas.Fmt.{length-decimal-le}
use Rattle.bz_trace_text.proofs.Digits.{numeral_made}
use Rattle.bz_trace_text.proofs.numeral.numeral_of.Goals as goal

pub write_digits-start-requires : goal.write_digits-start-requires
write_digits-start-requires c =
    let short = length-decimal-le 8 c.args.n (omega arith) (omega (arith, c.requires)) (omega (arith, c.requires)) in
    rw (c.from.ensures, c.digits-len.ensures.count) (omega arith, short)

pub invariant_of-result : goal.invariant_of-result
invariant_of-result c =
    let short = length-decimal-le 6 c.args.n (omega arith) (omega (arith, c.requires)) (omega (arith, c.requires)) in
    let w = c.write_digits-start.ensures in
    let count = c.digits-len.ensures.count in
    let made = numeral_made (decimal c.args.n) c.write_digits-start.new.buf c.digits-len.result c.write_digits-start.result count (omega (arith, count, short)) (rw c.from.ensures at w.start) (omega arith) (rw c.from.ensures at w.written) in
    record { fits = omega (arith, made.0, count, short) }

pub returns : goal.returns
returns c =
    let short = length-decimal-le 6 c.args.n (omega arith) (omega (arith, c.requires)) (omega (arith, c.requires)) in
    let w = c.write_digits-start.ensures in
    let count = c.digits-len.ensures.count in
    (numeral_made (decimal c.args.n) c.write_digits-start.new.buf c.digits-len.result c.write_digits-start.result count (omega (arith, count, short)) (rw c.from.ensures at w.start) (omega arith) (rw c.from.ensures at w.written)).1
