use Rattle.bz_cli_several.specs.Holding.{asked_of}
use Rattle.bz_cli_several.proofs.Told.{judged_of}
use Rattle.bz_cli_several.proofs.several.judge_next.Goals as goal

pub returns-clause-found : goal.returns-clause-found
returns-clause-found g c = judged_of (asked_of c.args.by.now) (g.T.Read.remaining c.args.trace.now) c.in_ok-net.net.wiring c.in_ok-judged.judged c.in_ok-judged.ensures.wiring c.in_ok-net.ensures.net c.in_ok-judged.ensures.found
