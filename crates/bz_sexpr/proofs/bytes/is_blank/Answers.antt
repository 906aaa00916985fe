use Rattle.std.proofs.Common.{arith}
use Rattle.bz_sexpr.specs.Bytes.{is_blank}
use Rattle.bz_sexpr.proofs.Runs.{told}
use Rattle.bz_sexpr.proofs.bytes.is_blank.Goals as goal

pub returns : goal.returns
returns c = told is_blank _ c.args.b (omega arith) c.blanks.ensures
