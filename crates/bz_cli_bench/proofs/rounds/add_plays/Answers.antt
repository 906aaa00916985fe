use Rattle.bz_cli_bench.proofs.Groups.{goes_on}
use Rattle.bz_cli_bench.proofs.rounds.add_plays.Goals as goal

pub loop-round-preserved : goal.loop-round-preserved
loop-round-preserved g c =
    goes_on c.args.trial.asked.seeds c.args.at.place c.args.cases.now.items c.loop-round.cases.items c.add_play-in-loop-round.new.cases.items c.loop-round.round c.loop-round.invariant c.in_ok-add_play-2.ensures
