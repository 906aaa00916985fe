use Rattle.bz_cli_bench.proofs.Statuses.{IsFirst}
use Rattle.bz_cli_bench.proofs.status.status_of.Given as goal

abbrev pub invariant-loop-case : goal.invariant-loop-case
invariant-loop-case l = IsFirst l.cases l.case-index l.status
