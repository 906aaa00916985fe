use Rattle.std.proofs.Common.{◌≡◌, ◌<◌, ◌≤◌, ◌^◌, ◌+◌, ℕ, suc, drop}
use Rattle.bz_trace_text.specs.Reading.{digits_on}
use Rattle.bz_trace_text.proofs.firing.digits_from.Given as goal

abbrev pub invariant-loop-more : goal.invariant-loop-more
invariant-loop-more l = record {
  reads : (top : ℕ) → 10 ^ suc l.most ≤ top → digits_on top l.first (drop l.from l.text) ≡ digits_on top l.n (drop (l.from + l.more) l.text);
  number : l.n < 10 ^ suc l.more;
}
