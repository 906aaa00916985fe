use Rattle.std.proofs.Common.{subst}
use Rattle.bz_model.specs.Runs.{CanStep}
use Rattle.bz_net.specs.Keeping.{IsMarked}
use Rattle.bz_explore_net.specs.Picking.{HasMembers}
use Rattle.bz_explore_net.specs.Stepping.{Played}
use Rattle.bz_explore_net.proofs.Picked.{members_along}
use Rattle.bz_explore_net.proofs.stepping.Stepping.count_movers.Goals as goal

pub returns-clause-count : goal.returns-clause-count
returns-clause-count c =
    let net = c.self.inside.net in let row = c.in_ok-movers.movers in let marks = c.in_ok-movers.ensures.movers in
    subst (λ (v : Played). HasMembers (CanStep v.net.wiring.sites v.net.state) c.count-count.result) c.self.view_is
    (members_along (IsMarked row) (CanStep net.wiring.sites net.state) (λ k is. (marks.exact k).marked is) (λ k can. (marks.exact k).marks can) c.count-count.result c.count-count.ensures)
