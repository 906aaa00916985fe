use Rattle.std.proofs.Common.{◌/◌, suc, arith}
use Rattle.bz_bits.proofs.Search.{joined}
use Rattle.bz_bits.proofs.summed.SummedRow.next_past.Goals as goal

pub returns : goal.returns
returns g c =
    let at = c.args.place / 64 in
    joined c.args.self.now (suc c.args.place) at (omega arith) (omega arith) c.requires c.next_behind.result c.next_behind.ensures
