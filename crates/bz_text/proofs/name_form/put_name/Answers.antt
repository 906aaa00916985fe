use Rattle.std.proofs.Common.{◌≡◌, ◌<◌, length, arith}
use Rattle.std.specs.List.{flat_map}
use Rattle.std.proofs.lemmas.Result.{err_from_is_err_and}
use Rattle.bz_model.specs.Traces.{byte_form, name_form}
use Rattle.bz_text.proofs.Sent.{stops_at, name_form_some}
use Rattle.bz_text.proofs.name_form.put_name.Goals as goal

pub returns-in_err-put_byte : goal.returns-in_err-put_byte
returns-in_err-put_byte g c =
    let p = err_from_is_err_and c.from_residual.result c.from_residual.ensures.1 in
    let some : 0 < length c.args.name.now = omega arith in
    let form : name_form c.args.name.now ≡ flat_map byte_form c.args.name.now = name_form_some c.args.name.now some in
    rw (p.1, form) (stops_at _ _ _ byte_form c.args.name.now c.loop-byte.byte-index _ (omega arith) c.loop-byte.invariant c.in_err-put_byte.ensures)
