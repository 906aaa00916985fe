use Rattle.bz_cli_bench.proofs.Groups.{more_of_all}
use Rattle.bz_cli_bench.proofs.testing.cases_of.Goals as goal

pub loop-place-preserved : goal.loop-place-preserved
loop-place-preserved g c =
    more_of_all c.args.trial.asked.seeds c.loop-place.place c.loop-place.cases.items c.add_cases.new.cases.items c.loop-place.invariant c.in_ok-add_cases.ensures
