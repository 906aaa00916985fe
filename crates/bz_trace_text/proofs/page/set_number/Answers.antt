use Rattle.std.proofs.Common.{ap, ◌+◌}
use Rattle.bz_trace_text.proofs.Digits.{placed}
use Rattle.bz_trace_text.proofs.page.set_number.Goals as goal

pub returns-clause-text : goal.returns-clause-text
returns-clause-text c =
    let w = c.write_digits-start.ensures in
    rw c.from.ensures at (placed _ _ _ _ _ _ (ap (λ k. c.args.at + k) (rw c.from.ensures c.digits.ensures.count)) w.start w.written w.before)
