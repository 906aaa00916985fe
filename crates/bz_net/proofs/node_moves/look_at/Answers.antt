use Rattle.std.proofs.Common.{subst}
use Rattle.bz_net.specs.Told.{IsTurning}
use Rattle.bz_net.proofs.Moving.{comp_is}
use Rattle.bz_net.proofs.node_moves.look_at.Goals as goal

pub returns-in-Some : goal.returns-in-Some
returns-in-Some c =
    let there = rw c.in-Some.is at c.requires in
    rw c.in-Some.is (subst IsTurning (comp_is c.args.nodes.now c.in-Some.comp c.node_id.result c.get.result.now there.0 there.1 c.node_id.ensures c.get.ensures) c.has_move-due.ensures.turns)
