use Rattle.std.proofs.Common.{arith, refl, length}
use Rattle.std.proofs.lemmas.Option.{slice_get_read}
use Rattle.std.proofs.lemmas.Result.{err_from_is_err_and}
use Rattle.bz_source.proofs.Walking.{found_all}
use Rattle.bz_source.proofs.places.walk.Goals as goal

pub returns-in_err-descend-clause-err : goal.returns-in_err-descend-clause-err
returns-in_err-descend-clause-err c =
    let p = err_from_is_err_and c.from_residual-in_err-descend.result c.from_residual-in_err-descend.ensures.1 in
    rw (p.1, p.2) (rw c.list-2.ensures.value at c.in_err-descend.ensures.err)

pub returns-clause-ok : goal.returns-clause-ok
returns-clause-ok c =
    let part = c.index-list-number.result in
    let parts = c.args.parts.now in
    let at = slice_get_read parts (length parts) c.args.number part refl c.requires (rw c.list-3.ensures.value at c.index-list-number.is) in
    found_all parts c.args.number part c.new-finds.result.items c.add_channels.new.finds.items c.descend.new.finds.items _ at c.new-finds.ensures.items (omega (arith, c.len.ensures, part.channels.ok.0)) c.in_ok-add_channels.ensures
    (rw c.list-2.ensures.value at c.in_ok-descend.ensures.ok)
