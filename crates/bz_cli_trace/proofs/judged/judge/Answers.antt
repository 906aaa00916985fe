use Rattle.bz_cli_trace.proofs.Judges.{found_read}
use Rattle.bz_cli_trace.proofs.judged.judge.Goals as goal

pub returns-in-Ok-clause-found : goal.returns-in-Ok-clause-found
returns-in-Ok-clause-found g c =
    let said = c.in-Ok.ensures in
    found_read c.args.way.to_first c.args.way.to_rest c.args.net.wiring _ _ said.wired said.wiring said.right said.whole said.first said.counted said.leaves c.moves_on-unrested.ensures

pub returns-in-Ok-clause-watches : goal.returns-in-Ok-clause-watches
returns-in-Ok-clause-watches g c = c.in-Ok.ensures.shows c.begin.ensures
