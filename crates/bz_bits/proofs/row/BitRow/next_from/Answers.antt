use Rattle.std.proofs.Common.{length, ap, arith, inl, inr}
use Rattle.std.proofs.lemmas.Bool.{cases_lt}
use Rattle.bz_bits.proofs.Rows.{length-bits}
use Rattle.bz_bits.proofs.Search.{nothing_past}
use Rattle.bz_bits.proofs.row.BitRow.next_from.Goals as goal

pub returns : goal.returns
returns g c k le =
    let n = c.self.inside.len in
    elim (cases_lt k n) [
      | inl lt ↦ c.loop-at.invariant k le (omega (arith, c.self.invariant.room, c.loop-at-test.false, c.len-at-end.ensures, c.self.inside.words.ok))
      | inr past ↦ nothing_past c.args.self.now k (omega (arith, length-bits c.self.inside.words.items n, ap length c.self.view_is))
    ]
