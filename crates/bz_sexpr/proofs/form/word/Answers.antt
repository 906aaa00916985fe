use Rattle.std.proofs.Common.{arith}
use Rattle.bz_sexpr.proofs.Leaves.{word_piece}
use Rattle.bz_sexpr.proofs.form.word.Goals as goal

pub returns : goal.returns
returns c = word_piece _ _ c.in_ok-first.first.now c.in_ok-first.ensures.cases.0 (omega arith)
