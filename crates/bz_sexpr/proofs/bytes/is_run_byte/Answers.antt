use Rattle.std.proofs.Common.{arith}
use Rattle.bz_sexpr.specs.Bytes.{is_run_byte}
use Rattle.bz_sexpr.proofs.Runs.{told}
use Rattle.bz_sexpr.proofs.bytes.is_run_byte.Goals as goal

pub returns : goal.returns
returns c = told is_run_byte _ c.args.b (omega arith) c.run_bytes.ensures
