use Rattle.bz_trace.proofs.Along.{no_run, other_behind, run_text, stops_at, told_here, too_many}
use Rattle.bz_trace.proofs.checking.verdict_listed.Goals as goal

pub returns-in-Some-clause-verdict : goal.returns-in-Some-clause-verdict
returns-in-Some-clause-verdict c w past text f = (
  too_many c.args.names.now w past c.args.net.now c.args.version text c.args.rest.now c.args.followed f c.in-Some.field-0.0 c.in-Some.field-0.1.now c.requires.no_more c.in-Some.ensures,
  told_here c.args.names.now w past c.args.net.now text c.args.rest.now c.args.followed f,
)

pub returns-in-Some-other_line-clause-verdict : goal.returns-in-Some-other_line-clause-verdict
returns-in-Some-other_line-clause-verdict c w past text f = (
  other_behind c.args.names.now w past c.args.net.now c.args.version text c.args.rest.now c.args.followed f c.in-Some-other_line.line c.in_default.ensures c.in-Some-other_line.ensures,
  told_here c.args.names.now w past c.args.net.now text c.args.rest.now c.args.followed f,
)

pub returns-in-Some-stop-clause-verdict : goal.returns-in-Some-stop-clause-verdict
returns-in-Some-stop-clause-verdict c w past text f = stops_at c.args.names.now w past c.args.net.now c.args.version text c.args.rest.now c.args.followed f c.in_default-other_line.ensures c.args.is_last c.in-Some-stop.line c.in-Some-stop.is

pub returns-in-None-clause-verdict : goal.returns-in-None-clause-verdict
returns-in-None-clause-verdict c w past text f =
    let from = c.in_default-other_line.ensures in
    run_text c.args.names.now w past c.args.net.now c.args.version text c.args.rest.now c.args.followed f from c.args.is_last c.due.result.now c.in_default-stop.is c.due.ensures (c.in-None.ensures from.0 from.1 from.3)

pub returns-in-Some-other_clash-clause-verdict : goal.returns-in-Some-other_clash-clause-verdict
returns-in-Some-other_clash-clause-verdict c w past text f =
    let from = c.in_default-other_line.ensures in
    no_run c.args.names.now w past c.args.net.now c.args.version text c.args.rest.now c.args.followed f from c.args.is_last c.due.result.now c.in_default-stop.is c.due.ensures c.in-Some-other_clash.place (c.in-Some-other_clash.ensures from.0 from.1 from.3)
