use Rattle.std.proofs.Common.{◌≡◌, ◌<◌, ◌∙◌, sym, drop, drop-cons, length, arith}
use Rattle.std.proofs.lemmas.Bool.{eqb-false, eqb-true}
use Rattle.std.proofs.lemmas.Result.{err_from_is_err_and}
use Rattle.bz_page.proofs.Escapes.{sent_all, sent_stretch, stops_at_byte, stops_in_front}
use Rattle.bz_page.proofs.escaping.put_stretch.Goals as goal

pub returns-in_err-put-clause-err : goal.returns-in_err-put-clause-err
returns-in_err-put-clause-err g c =
    let p = err_from_is_err_and c.from_residual.result c.from_residual.ensures.1 in
    rw p.1 (stops_in_front _ _ c.args.text.now c.split_kept.result.0.now c.split_kept.result.1.now c.split_kept.ensures.whole c.split_kept.ensures.kept c.in_err-put.ensures)

pub returns-then-is_empty-clause-ok : goal.returns-then-is_empty-clause-ok
returns-then-is_empty-clause-ok g c =
    let none : length c.split_kept.result.1.now ≡ 0 = eqb-true _ _ (sym c.is_empty.ensures ∙ c.if-is_empty.true) in
    sent_all _ _ c.args.text.now c.split_kept.result.0.now c.split_kept.result.1.now c.requires c.split_kept.ensures.whole c.split_kept.ensures.kept none c.in_ok-put.ensures

pub returns-in_err-put_byte-clause-err : goal.returns-in_err-put_byte-clause-err
returns-in_err-put_byte-clause-err g c =
    let p = err_from_is_err_and c.from_residual-in_err-put_byte.result c.from_residual-in_err-put_byte.ensures.1 in
    let other = eqb-false _ _ (sym c.is_empty.ensures ∙ c.if-is_empty.false) in
    let some : 0 < length c.split_kept.result.1.now = omega (arith, other) in
    rw p.1
    (stops_at_byte _ _ _ c.args.text.now c.split_kept.result.0.now c.split_kept.result.1.now (drop 1 c.split_kept.result.1.now) _ c.split_kept.ensures.whole c.split_kept.ensures.kept
    (drop-cons c.split_kept.result.1.now 0 0 some) c.in_ok-put.ensures c.in_err-put_byte.ensures)

pub returns-clause-ok : goal.returns-clause-ok
returns-clause-ok g c =
    let other = eqb-false _ _ (sym c.is_empty.ensures ∙ c.if-is_empty.false) in
    let some : 0 < length c.split_kept.result.1.now = omega (arith, other) in
    rw c.split_at.ensures.back
    (sent_stretch _ _ _ c.args.text.now c.split_kept.result.0.now c.split_kept.result.1.now (drop 1 c.split_kept.result.1.now) _ c.split_kept.ensures.whole c.split_kept.ensures.kept
    (drop-cons c.split_kept.result.1.now 0 0 some) c.in_ok-put.ensures c.in_ok-put_byte.ensures)
