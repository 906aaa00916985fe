use Rattle.std.proofs.Common.{ap, ◌∙◌}
use Rattle.std.specs.Vec.{vec_capacity}
use Rattle.bz_net.specs.Noted.{Notes}
use Rattle.bz_net.proofs.Raising.{kept_notes}
use Rattle.bz_net.proofs.noted.Noted.into_listed.Goals as goal

pub invariant_of-result : goal.invariant_of-result
invariant_of-result c =
    let n = c.noted.inside in
    (kept_notes n.flagged n.numbers.items n.most (vec_capacity n.numbers) c.noted.invariant.0 (ap (λ (v : Notes). v.current) (c.noted.view_is ∙ c.list.ensures)), c.noted.invariant.1)
