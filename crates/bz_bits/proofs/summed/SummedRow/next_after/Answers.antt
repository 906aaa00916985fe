use Rattle.std.proofs.Common.{Bool, List, ◌≤◌, suc, length, ap, arith, subst}
use Rattle.bz_bits.specs.Row.{IsNext}
use Rattle.bz_bits.proofs.Search.{few_after}
use Rattle.bz_bits.proofs.summed.SummedRow.next_after.Goals as goal

pub returns-clause-few : goal.returns-clause-few
returns-clause-few g c =
    subst (λ (l : List Bool). length l ≤ 64 → IsNext l (suc c.args.place) c.next_after.result) c.self.view_is
    (λ few. few_after c.self.inside.row c.args.place c.next_after.result few (omega (arith, c.requires, ap length c.self.view_is)) c.next_after.ensures)
