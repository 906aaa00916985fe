use Rattle.std.proofs.lemmas.Result.{err_from_is_err_and}
use Rattle.bz_text.specs.Pieces.{in_text, record_text}
use Rattle.bz_text.proofs.Sent.{stops_before, writes_after}
use Rattle.bz_text.proofs.pieces.put_place.Goals as goal

pub returns-in_err-put_record : goal.returns-in_err-put_record
returns-in_err-put_record g c =
    let p = err_from_is_err_and c.from_residual.result c.from_residual.ensures.1 in
    rw p.1 (stops_before _ _ (record_text c.args.part.now c.args.position c.args.line) (in_text c.args.path.now) c.in_err-put_record.ensures)

pub returns : goal.returns
returns g c = writes_after _ _ _ _ (record_text c.args.part.now c.args.position c.args.line) (in_text c.args.path.now) c.in_ok-put_record.ensures c.put_in.ensures
