use Rattle.bz_cli_bench.proofs.Groups.{IsBegun}
use Rattle.bz_cli_bench.proofs.rounds.add_plays.Given as goal

abbrev pub invariant-loop-round : goal.invariant-loop-round
invariant-loop-round g l = IsBegun l.fn.trial.asked.seeds l.fn.at.place l.fn.cases.items l.cases.items l.round
