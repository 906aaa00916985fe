use Rattle.std.proofs.Common.{refl, arith}
use Rattle.bz_trace_text.specs.Reading.{carried_at}
use Rattle.bz_trace_text.proofs.Firings.{no_digit_there, stripped}
use Rattle.bz_trace_text.proofs.firing.carried_from.Goals as goal

pub returns-then-not-carried-clause-reads : goal.returns-then-not-carried-clause-reads
unfolding carried_at
returns-then-not-carried-clause-reads c = λ ends. rw c.if-not-carried.true refl

pub returns-clause-before : goal.returns-clause-before
returns-clause-before c = λ ends. no_digit_there c.args.text.now c.args.from 32 (omega (arith, c.requires)) c.if-text-from-ne32.false refl

pub returns-clause-reads : goal.returns-clause-reads
unfolding carried_at
returns-clause-reads c = λ ends.
    rw (c.if-not-carried.false, stripped c.args.text.now c.args.from 32 (omega (arith, c.requires)) c.if-text-from-ne32.false, c.in_ok-value.ensures.reads ends, c.from.ensures) refl
