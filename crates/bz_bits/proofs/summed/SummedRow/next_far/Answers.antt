use Rattle.std.proofs.Common.{◌/◌, arith}
use Rattle.bz_bits.proofs.Search.{joined}
use Rattle.bz_bits.proofs.summed.SummedRow.next_far.Goals as goal

pub returns : goal.returns
returns g c =
    let at = c.args.from / 64 in
    joined c.args.self.now c.args.from at (omega arith) (omega arith) c.requires c.next_behind.result c.next_behind.ensures
