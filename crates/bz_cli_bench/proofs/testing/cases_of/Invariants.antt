use Rattle.bz_cli_bench.specs.Cases.{AreOf}
use Rattle.bz_cli_bench.proofs.testing.cases_of.Given as goal

abbrev pub invariant-loop-place : goal.invariant-loop-place
invariant-loop-place g l = AreOf l.fn.trial.asked.seeds l.place l.cases.items
