use Rattle.std.proofs.lemmas.Result.{err_from_is_err_and}
use Rattle.bz_text.proofs.Sent.{stops_before}
use Rattle.bz_trace_text.proofs.Pages.{stops_on, composes_out}
use Rattle.bz_trace_text.proofs.trace.add_entry.Goals as goal

pub returns-in_err-make_room-in-Fired : goal.returns-in_err-make_room-in-Fired
returns-in_err-make_room-in-Fired g c =
    let p = err_from_is_err_and c.from_residual.result c.from_residual.ensures.1 in
    rw p.1 (stops_on _ _ c.args.page.now _ c.in_err-make_room-in-Fired.ensures.text)

pub returns-in_err-put-in-Host : goal.returns-in_err-put-in-Host
returns-in_err-put-in-Host g c =
    let p = err_from_is_err_and c.from_residual-in_err-put-in-Host.result c.from_residual-in_err-put-in-Host.ensures.1 in
    rw p.1 (stops_before _ _ c.args.page.now _ c.in_err-put-in-Host.ensures.out)

pub returns-in_err-put-in-Rested : goal.returns-in_err-put-in-Rested
returns-in_err-put-in-Rested g c =
    let p = err_from_is_err_and c.from_residual-in_err-put-in-Rested.result c.from_residual-in_err-put-in-Rested.ensures.1 in
    rw p.1 (stops_before _ _ c.args.page.now _ c.in_err-put-in-Rested.ensures.out)

pub returns-in_ok-put-in-Host : goal.returns-in_ok-put-in-Host
returns-in_ok-put-in-Host g c =
    rw (c.in-Host.is, c.in_ok-put-in-Host.ensures.empty, ← c.name_of.ensures) (composes_out _ _ _ _ c.args.page.now _ c.in_ok-put-in-Host.ensures.out c.put_host.ensures)

pub returns-in_ok-put-in-Rested : goal.returns-in_ok-put-in-Rested
returns-in_ok-put-in-Rested g c =
    rw (c.in-Rested.is, c.in_ok-put-in-Rested.ensures.empty) (composes_out _ _ _ _ c.args.page.now _ c.in_ok-put-in-Rested.ensures.out c.put_rested.ensures)
