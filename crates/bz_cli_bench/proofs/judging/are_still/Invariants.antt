use Rattle.bz_cli_bench.specs.Verdicts.{IsStill}
use Rattle.bz_bench.proofs.Each.{OfFirst}
use Rattle.bz_cli_bench.proofs.judging.are_still.Given as goal

abbrev pub invariant-loop-place : goal.invariant-loop-place
invariant-loop-place l = OfFirst l.streams (IsStill l.net.wiring l.net.state l.net.journal l.group) l.place
