use Rattle.std.proofs.Common.{arith}
use Rattle.bz_cli_trace.specs.Judging.{entry_count}
use Rattle.bz_draw.proofs.Moments.{kept_at_last}
use Rattle.bz_draw.proofs.behind.core_behind.Goals as goal

pub returns-in-None : goal.returns-in-None
returns-in-None c =
    let judged = c.args.case.now.judged in
    let entries = rw c.found.ensures at c.entries.ensures in
    kept_at_last judged.net c.args._trace.now (entry_count judged.found.counts) c.args.line c.core.result.now c.dup.result c.requires.ends (omega (arith, c.if-line-entries.true, entries)) c.core.ensures.wiring c.core.ensures.state c.dup.ensures
