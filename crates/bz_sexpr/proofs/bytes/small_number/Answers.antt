use Rattle.std.proofs.Common.{arith}
use Rattle.bz_sexpr.proofs.Numbers.{number_at_end}
use Rattle.bz_sexpr.proofs.bytes.small_number.Goals as goal

pub returns : goal.returns
returns c =
    number_at_end c.args.run.now c.loop-b.b-index c.loop-b.n (omega arith) (omega (arith, c.loop-b.invariant.fits)) c.loop-b.invariant.value c.loop-b.invariant.digits
