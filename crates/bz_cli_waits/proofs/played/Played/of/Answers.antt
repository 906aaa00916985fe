use Rattle.std.proofs.Common.{subst, sym}
use Rattle.std.specs.Option.{option_copied}
use Rattle.bz_cli_input.specs.Opening.{Denotes}
use Rattle.bz_cli_trace.proofs.Judges.{shown_read}
use Rattle.bz_cli_waits.proofs.Waited.{found_here}
use Rattle.bz_cli_waits.proofs.played.Played.of.Goals as goal

pub returns-in-Ok-judge-clause-net : goal.returns-in-Ok-judge-clause-net
returns-in-Ok-judge-clause-net g c =
    subst (Denotes c.args.netlist.now (option_copied c.args.asked)) (sym c.in-Ok-judge.ensures.wiring) c.in-Ok.ensures.net

pub returns-in-Ok-judge-clause-found : goal.returns-in-Ok-judge-clause-found
returns-in-Ok-judge-clause-found g c =
    found_here c.args.way.to_first c.args.way.to_rest _ c.in-Ok-judge.judged _ c.in-Ok-judge.ensures.wiring c.in-Ok-judge.ensures.found

pub returns-in-Ok-judge-clause-watches : goal.returns-in-Ok-judge-clause-watches
returns-in-Ok-judge-clause-watches g c =
    shown_read g.S.Watch.behind c.args.way.to_first c.args.way.to_rest _ c.in-Ok-judge.judged _ _ c.in-Ok-judge.ensures.found c.in-Ok-judge.ensures.watches
