use Rattle.bz_cli_trace.proofs.Judges.{case_read, shown_read}
use Rattle.bz_cli_trace.proofs.case.Case.of.Goals as goal

pub returns-in-Ok-judge-clause-ok : goal.returns-in-Ok-judge-clause-ok
returns-in-Ok-judge-clause-ok g c =
    let opened = c.in-Ok.ensures in
    let parts = c.into_parts.ensures in
    case_read c.args.way.to_first c.args.way.to_rest c.args.netlist.now _ c.into_parts.result.0.wiring _ _ (rw parts.net opened.opened.net) (rw parts.net (rw parts.source (rw parts.part opened.opened.read))) c.in-Ok-judge.ensures.found

pub returns-in-Ok-judge-clause-watches : goal.returns-in-Ok-judge-clause-watches
returns-in-Ok-judge-clause-watches g c =
    shown_read g.S.Watch.behind c.args.way.to_first c.args.way.to_rest _ c.in-Ok-judge.judged _ _ c.in-Ok-judge.ensures.found c.in-Ok-judge.ensures.watches
