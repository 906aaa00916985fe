use Rattle.std.proofs.Common.{arith}
use Rattle.std.proofs.lemmas.Result.{err_from_is_err_and}
use Rattle.bz_model.specs.Traces.{line_text}
use Rattle.bz_trace_text.proofs.Pages.{composes_more, composes_stops, composes_last}
use Rattle.bz_trace_text.proofs.trace.put_lines.Goals as goal

pub returns-in_err-add_entry : goal.returns-in_err-add_entry
returns-in_err-add_entry g c =
    let p = err_from_is_err_and c.from_residual.result c.from_residual.ensures.1 in
    rw p.1 (composes_stops _ _ _ (line_text c.args.names.now.ports) c.args.entries.now c.loop-entry.entry-index _ c.loop-entry.page (omega arith) c.loop-entry.invariant c.in_err-add_entry.ensures)

pub loop-entry-preserved : goal.loop-entry-preserved
loop-entry-preserved g c = composes_more _ _ _ (line_text c.args.names.now.ports) c.args.entries.now c.loop-entry.entry-index _ c.loop-entry.page _ (omega arith) c.loop-entry.invariant c.in_ok-add_entry.ensures

pub returns : goal.returns
returns g c = composes_last _ _ _ _ (line_text c.args.names.now.ports) c.args.entries.now c.loop-entry.entry-index c.loop-entry.page (omega arith) c.loop-entry.invariant c.put.ensures.out
