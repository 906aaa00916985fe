use Rattle.bz_cli_bench.specs.Verdicts.{IsAsBenched}
use Rattle.bz_bench.proofs.Each.{OfFirst}
use Rattle.bz_cli_bench.proofs.judging.are_as_benched.Given as goal

abbrev pub invariant-loop-place : goal.invariant-loop-place
invariant-loop-place l = OfFirst l.streams (IsAsBenched l.net.wiring l.net.state l.net.journal) l.place
