use Rattle.std.proofs.Common.{arith, length-take, drop, ◌-◌}
use Rattle.bz_source.proofs.LineCounts.{feeds_on}
use Rattle.bz_source.proofs.lines.LineCounter.line_of.Goals as goal

pub invariant_of-self : goal.invariant_of-self
invariant_of-self c =
    let on = feeds_on c.args.self.now.text.now c.start-at.result.0 c.min-byte.result c.start-at.ensures.before in
    record {
      within = omega arith;
      counted = omega (arith, on, c.start-at.ensures.line, c.feeds.ensures.count);
      few = omega (arith, c.start-at.ensures.few, c.start-at.ensures.before, c.feeds.ensures.few, length-take (c.min-byte.result - c.start-at.result.0) (drop c.start-at.result.0 c.args.self.now.text.now));
    }
