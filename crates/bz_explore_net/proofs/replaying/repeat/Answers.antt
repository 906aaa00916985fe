use Rattle.std.proofs.Common.{subst}
use Rattle.bz_explore_net.specs.Replaying.{CanFollow}
use Rattle.bz_explore_net.proofs.Replays.{not_ready}
use Rattle.bz_explore_net.proofs.replaying.repeat.Goals as goal

pub returns-in-Ok-Ready-clause-ok : goal.returns-in-Ok-Ready-clause-ok
returns-in-Ok-Ready-clause-ok c =
    let old = c.args.net.now in let new = c.rest.new.self in let who = c.in-Rested.who in
    let ready = rw c.in-Ok-Ready.field-0-is at c.in-Ok-Ready.ensures.ok in
    rw c.in-Rested.is (not_ready old new who c.in-Ok-Ready.field-0-0 (subst (CanFollow old) c.in-Rested.is c.requires) ready.0)
