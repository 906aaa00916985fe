use Rattle.std.proofs.Common.{ℕ, ◌<◌}
use Rattle.bz_cli_trace.specs.Splitting.{IsTraceAt}
use Rattle.bz_cli_trace.proofs.splitting.split_trace.Given as goal

abbrev pub invariant-loop-place : goal.invariant-loop-place
invariant-loop-place l = (k : ℕ) → k < l.place → IsTraceAt l.text k → ⊥
