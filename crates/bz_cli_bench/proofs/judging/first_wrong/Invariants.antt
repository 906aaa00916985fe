use Rattle.bz_cli_bench.proofs.Ports.{AreFirst}
use Rattle.bz_cli_bench.proofs.judging.first_wrong.Given as goal

abbrev pub invariant-loop-place : goal.invariant-loop-place
invariant-loop-place l = AreFirst l.stream l.passed l.place
