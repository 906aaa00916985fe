use Rattle.std.proofs.Common.{[], codes}
use Rattle.std.specs.List.{flat_map}
use Rattle.std.proofs.lemmas.Result.{err_from_is_err_and}
use Rattle.bz_model.specs.Traces.{clash_text}
use Rattle.bz_trace_text.specs.Writing.{first_lines}
use Rattle.bz_text.proofs.Sent.{stops_before}
use Rattle.bz_trace_text.proofs.trace.write_trace.Goals as goal

pub returns-in_err-put_first_line : goal.returns-in_err-put_first_line
returns-in_err-put_first_line g c =
    let p = err_from_is_err_and c.from_residual.result c.from_residual.ensures.1 in
    rw p.1 (stops_before _ _ (codes "trace 2\n") _ c.in_err-put_first_line.ensures.line)

pub returns-in_err-put_entries : goal.returns-in_err-put_entries
returns-in_err-put_entries g c =
    let ports = c.args.names.now.ports in
    let p = err_from_is_err_and c.from_residual-in_err-put_entries.result c.from_residual-in_err-put_entries.ensures.1 in
    rw p.1 (stops_before _ _ (first_lines ports c.args.entries.now) (flat_map clash_text c.args.clashes.now)
    (c.in_err-put_entries.ensures.pieces _ [] (c.in_ok-put_first_line.ensures.pieces ports)))

pub returns : goal.returns
returns g c =
    let ports = c.args.names.now.ports in
    c.put_clashes.ensures.whole ports _ c.args.entries.now (c.in_ok-put_entries.ensures.pieces _ [] (c.in_ok-put_first_line.ensures.pieces ports))
