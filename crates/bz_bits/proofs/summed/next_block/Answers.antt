use Rattle.std.proofs.Common.{arith}
use Rattle.bz_bits.proofs.Search.{near_all}
use Rattle.bz_bits.proofs.summed.next_block.Goals as goal

pub returns-then-len-le64 : goal.returns-then-len-le64
returns-then-len-le64 g c = near_all c.args.blocks.now c.args.from c.next_in_word.result (omega (arith, c.if-len-le64.true, c.len.ensures)) c.next_in_word.ensures
