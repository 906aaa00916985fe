use Rattle.bz_cli_bench.specs.Verdicts.{IsServed}
use Rattle.bz_bench.proofs.Each.{OfFirst}
use Rattle.bz_cli_bench.proofs.judging.are_served.Given as goal

abbrev pub invariant-loop-place : goal.invariant-loop-place
invariant-loop-place l = OfFirst l.streams (IsServed l.net.wiring l.net.state l.net.journal l.from) l.place
