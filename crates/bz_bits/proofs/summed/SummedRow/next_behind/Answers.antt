use Rattle.std.proofs.Common.{◌+◌, ◌*◌, ◌/◌, Bool, List, None, Some, subst}
use Rattle.bz_bits.specs.Row.{IsNext}
use Rattle.bz_bits.proofs.Search.{behind, behind_none, told_one}
use Rattle.bz_bits.proofs.summed.SummedRow.next_behind.Goals as goal

pub first_in-requires : goal.first_in-requires
first_in-requires g c = told_one c.self.inside.row c.self.inside.words c.self.invariant.0 c.in-Some.word c.in-Some.ensures.2

pub returns-in-Some : goal.returns-in-Some
returns-in-Some g c =
    subst (λ (l : List Bool). IsNext l (64 * (c.args.place / 64 + 1)) (Some c.first_in.result)) c.self.view_is
    (behind c.self.inside.row c.self.inside.words c.self.invariant.0 (c.args.place / 64) c.in-Some.word c.in-Some.ensures (Some c.first_in.result) c.first_in.ensures)

pub returns-in-None : goal.returns-in-None
returns-in-None g c =
    subst (λ (l : List Bool). IsNext l (64 * (c.args.place / 64 + 1)) None) c.self.view_is
    (behind_none c.self.inside.row c.self.inside.words c.self.invariant.0 (c.args.place / 64) c.in-None.ensures)
