use Rattle.std.proofs.Common.{◌≤◌, Bool, List, length, subst}
use Rattle.bz_bits.specs.Row.{IsNext}
use Rattle.bz_bits.proofs.Search.{near_all}
use Rattle.bz_bits.proofs.summed.SummedRow.next_near.Goals as goal

pub returns-clause-few : goal.returns-clause-few
returns-clause-few g c =
    subst (λ (l : List Bool). length l ≤ 64 → IsNext l c.args.from c.next_in_word.result) c.self.view_is
    (λ few. near_all c.self.inside.row c.args.from c.next_in_word.result few c.next_in_word.ensures)
