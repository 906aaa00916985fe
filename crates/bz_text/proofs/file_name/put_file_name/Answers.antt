use Rattle.std.proofs.Common.{arith}
use Rattle.std.proofs.lemmas.Result.{err_from_is_err_and}
use Rattle.bz_text.specs.FileNames.{file_byte}
use Rattle.bz_text.proofs.Sent.{stops_at}
use Rattle.bz_text.proofs.file_name.put_file_name.Goals as goal

pub returns-in_err-put_byte : goal.returns-in_err-put_byte
returns-in_err-put_byte g c =
    let p = err_from_is_err_and c.from_residual.result c.from_residual.ensures.1 in
    rw p.1 (stops_at _ _ _ file_byte c.args.name.now c.loop-byte.byte-index _ (omega arith) c.loop-byte.invariant c.in_err-put_byte.ensures)
