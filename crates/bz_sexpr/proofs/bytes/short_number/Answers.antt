use Rattle.std.proofs.Common.{sym, ◌∙◌, arith}
use Rattle.bz_sexpr.proofs.Numbers.{not_all_digits, number_at_end, tens_fit}
use Rattle.bz_sexpr.proofs.bytes.short_number.Goals as goal

pub returns-then-not-is_ascii_digit : goal.returns-then-not-is_ascii_digit
returns-then-not-is_ascii_digit c =
    not_all_digits c.args.run.now c.loop-b.b-index (omega arith) c.loop-b.invariant.digits (sym c.is_ascii_digit.ensures.value ∙ c.if-not-is_ascii_digit.true)

pub overflow_mul-n : goal.overflow_mul-n
overflow_mul-n c =
    let small = tens_fit c.loop-b.b-index 8 c.loop-b.n (omega (arith, c.loop-b-test.true, c.requires)) c.loop-b.invariant.fits in
    omega (arith, small)

pub overflow_add-n : goal.overflow_add-n
overflow_add-n c =
    let small = tens_fit c.loop-b.b-index 8 c.loop-b.n (omega (arith, c.loop-b-test.true, c.requires)) c.loop-b.invariant.fits in
    omega (arith, small, c.from.ensures, c.type_inv.run c.loop-b.b-index)

pub returns : goal.returns
returns c =
    let small = tens_fit c.loop-b.b-index 9 c.loop-b.n (omega (arith, c.loop-b.auto.b-index-end, c.requires)) c.loop-b.invariant.fits in
    number_at_end c.args.run.now c.loop-b.b-index c.loop-b.n (omega arith) (omega (arith, small)) c.loop-b.invariant.value c.loop-b.invariant.digits
