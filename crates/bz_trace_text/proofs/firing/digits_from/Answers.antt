use Rattle.std.proofs.Common.{◌≡◌, ◌+◌, ◌*◌, ◌%◌, suc, true, get_or, drop, ap, ◌∙◌, arith, add-one}
use Rattle.std.specs.Char.{is_ascii_digit}
use Rattle.bz_trace_text.specs.Reading.{digits_on}
use Rattle.bz_trace_text.proofs.Numbers.{digit_of}
use Rattle.bz_trace_text.proofs.Firings.{ten_up, digit_more, digit_past}
use Rattle.bz_trace_text.proofs.firing.digits_from.Goals as goal

pub returns-then-digit-gt9-clause-number : goal.returns-then-digit-gt9-clause-number
returns-then-digit-gt9-clause-number c =
    omega (arith, c.loop-more.invariant.number, ten_up (suc c.loop-more.more) (suc c.args.most) (omega (arith, c.loop-more-test.true)))

-- no number of at most 18 digits is too large
pub overflow_mul-n : goal.overflow_mul-n
overflow_mul-n c =
    omega (arith, c.loop-more.invariant.number, ten_up (suc (suc c.loop-more.more)) 18 (omega (arith, c.loop-more-test.true, c.requires.few)))

pub overflow_add-n : goal.overflow_add-n
overflow_add-n c =
    omega (arith, c.loop-more.invariant.number, c.if-digit-gt9.false, ten_up (suc (suc c.loop-more.more)) 18 (omega (arith, c.loop-more-test.true, c.requires.few)))

pub loop-more-preserved : goal.loop-more-preserved
loop-more-preserved c =
    let n = c.loop-more.n in
    let at = c.args.from + c.loop-more.more in
    let d = (c.from-digit.result + 18446744073709551568) % 18446744073709551616 in
    let past = digit_past (get_or c.args.text.now at 0) c.from-digit.result c.from-digit.ensures (omega (arith, c.type_inv.text at)) c.if-digit-gt9.false in
    let is : is_ascii_digit (get_or c.args.text.now at 0) ≡ true = digit_of (get_or c.args.text.now at 0) past.0 past.1 in
    let worth = past.2 in
    let fits = ten_up (suc (suc c.loop-more.more)) (suc c.args.most) (omega (arith, c.loop-more-test.true)) in
    let next : at + 1 ≡ c.args.from + (c.loop-more.more + 1) = omega arith in
    record {
      reads = λ top big.
          c.loop-more.invariant.reads top big
          ∙ digit_more top n at (10 * n + d) c.args.text.now (omega (arith, c.requires.within, c.loop-more-test.true)) is (omega (arith, worth)) (omega (arith, c.loop-more.invariant.number, c.if-digit-gt9.false, fits, big))
          ∙ ap (λ i. digits_on top (10 * n + d) (drop i c.args.text.now)) next;
      number = rw (add-one c.loop-more.more) (omega (arith, c.loop-more.invariant.number, c.if-digit-gt9.false));
    }
