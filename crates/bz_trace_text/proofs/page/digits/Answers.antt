use Rattle.std.proofs.Common.{length, sym, ap, arith}
use Rattle.bz_trace_text.proofs.Digits.{digits_between}
use Rattle.std.proofs.lemmas.Fmt.{decimal_digit}
use Rattle.bz_trace_text.proofs.page.digits.Goals as goal

pub returns-then-n-lt10-clause-count : goal.returns-then-n-lt10-clause-count
returns-then-n-lt10-clause-count c = sym (ap length (decimal_digit c.args.n (omega arith)))

pub returns-then-n-lt100-clause-count : goal.returns-then-n-lt100-clause-count
returns-then-n-lt100-clause-count c = sym (digits_between 1 c.args.n (omega arith) (omega arith) (omega arith))

pub returns-then-n-lt1000-clause-count : goal.returns-then-n-lt1000-clause-count
returns-then-n-lt1000-clause-count c = sym (digits_between 2 c.args.n (omega arith) (omega arith) (omega arith))

pub returns-then-n-lt10000-clause-count : goal.returns-then-n-lt10000-clause-count
returns-then-n-lt10000-clause-count c = sym (digits_between 3 c.args.n (omega arith) (omega arith) (omega arith))

pub returns-then-n-lt100000-clause-count : goal.returns-then-n-lt100000-clause-count
returns-then-n-lt100000-clause-count c = sym (digits_between 4 c.args.n (omega arith) (omega arith) (omega arith))

pub returns-then-n-lt1000000-clause-count : goal.returns-then-n-lt1000000-clause-count
returns-then-n-lt1000000-clause-count c = sym (digits_between 5 c.args.n (omega arith) (omega arith) (omega arith))

pub returns-then-n-lt10000000-clause-count : goal.returns-then-n-lt10000000-clause-count
returns-then-n-lt10000000-clause-count c = sym (digits_between 6 c.args.n (omega arith) (omega arith) (omega arith))

pub returns-then-n-lt100000000-clause-count : goal.returns-then-n-lt100000000-clause-count
returns-then-n-lt100000000-clause-count c = sym (digits_between 7 c.args.n (omega arith) (omega arith) (omega arith))

pub returns-then-n-lt1000000000-clause-count : goal.returns-then-n-lt1000000000-clause-count
returns-then-n-lt1000000000-clause-count c = sym (digits_between 8 c.args.n (omega arith) (omega arith) (omega arith))

pub returns-else-n-lt1000000000-clause-count : goal.returns-else-n-lt1000000000-clause-count
returns-else-n-lt1000000000-clause-count c = sym (digits_between 9 c.args.n (omega arith) (omega arith) (omega arith))
