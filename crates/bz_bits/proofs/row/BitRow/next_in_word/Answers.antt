use Rattle.std.proofs.Common.{ap, length, arith}
use Rattle.bz_bits.proofs.Rows.{length-bits}
use Rattle.bz_bits.proofs.Search.{nothing_past}
use Rattle.bz_bits.proofs.row.BitRow.next_in_word.Goals as goal

pub returns-then-self-from : goal.returns-then-self-from
returns-then-self-from g c k le at =
    nothing_past c.args.self.now k (omega (arith, length-bits c.self.inside.words.items c.self.inside.len, ap length c.self.view_is, c.if-self-from.true))

pub next_within-requires : goal.next_within-requires
next_within-requires g c =
    omega (arith, length-bits c.self.inside.words.items c.self.inside.len, ap length c.self.view_is, c.if-self-from.false)
