use Rattle.std.proofs.Common.{length, sym, arith}
use Rattle.std.proofs.lemmas.Result.{err_from_is_err_and}
use Rattle.std.specs.Io.KnownBytes.{Appends}
use Rattle.bz_locked.specs.Terms.{terms}
use Rattle.bz_cli_input.specs.Stopping.{AppendsSome}
use Rattle.bz_cli.proofs.PoolOutcomes.{closed_well, cut_short, first_told, pooled_so}
use Rattle.bz_cli.proofs.pooling.write_closed.Goals as goal

pub returns-in_err-write_out : goal.returns-in_err-write_out
returns-in_err-write_out g c lists workers stopped turns count counts played =
    let net = c.args.net in
    let old = g.W.Write.contents c.args.output.now in
    let new = g.W.Write.contents c.write_out.new.output in
    let out = rw (c.names.ensures.value, c.journal.ensures.entries) at c.in_err-write_out.ensures.err in
    let fault = err_from_is_err_and c.from_residual.result c.from_residual.ensures.1 in
    rw fault.1 (cut_short (terms net.wiring net.limit c.args.fuel (length lists)) lists workers c.args.ends.items old new fault.0 fault.2 (pooled_so c.args.fuel net lists workers c.args.ends.items stopped turns played c.clashes.result.now (AppendsSome old new) c.clashes.ensures c.requires.run c.journal.ensures.within c.requires.within out))

pub returns-in-None : goal.returns-in-None
returns-in-None g c lists workers stopped turns count counts played =
    let net = c.args.net in
    let old = g.W.Write.contents c.args.output.now in
    let new = g.W.Write.contents c.write_out.new.output in
    let out = rw (c.names.ensures.value, c.journal.ensures.entries) at c.in_ok-write_out.ensures.ok in
    closed_well c.args.fuel net lists workers c.args.ends stopped turns played c.clashes.result.now old new c.clashes.ensures c.requires.run c.journal.ensures.within c.requires.within out (rw c.as_slice-2.ensures.value at c.in-None.ensures.none) (omega (arith, counts, c.args.ends.ok.0)) _ (rw (c.as_slice.ensures.value, sym count) at c.are_done-is_done.ensures)

pub returns-in-Some : goal.returns-in-Some
returns-in-Some g c lists workers stopped turns count counts played =
    let net = c.args.net in
    let old = g.W.Write.contents c.args.output.now in
    let new = g.W.Write.contents c.write_out.new.output in
    let out = rw (c.names.ensures.value, c.journal.ensures.entries) at c.in_ok-write_out.ensures.ok in
    let first = rw c.as_slice-2.ensures.value at c.in-Some.ensures.some in
    first_told (terms net.wiring net.limit c.args.fuel (length lists)) lists workers c.args.sessions c.args.ends.items old new _ count first (pooled_so c.args.fuel net lists workers c.args.ends.items stopped turns played c.clashes.result.now (Appends old new) c.clashes.ensures c.requires.run c.journal.ensures.within c.requires.within out)
