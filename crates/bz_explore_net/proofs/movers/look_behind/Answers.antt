use Rattle.bz_explore_net.proofs.Moving.{looked_ends, moves_on}
use Rattle.bz_explore_net.proofs.movers.look_behind.Goals as goal

pub returns-in-Some : goal.returns-in-Some
returns-in-Some c =
    let n = c.args.net.now in let was = c.requires in
    let on = moves_on n.wiring was.0 n.state c.args.entry c.in-Some.chan c.names.ensures.wired was.1 c.in-Some.ensures in
    looked_ends n.wiring was.0 n.state c.in-Some.chan c.names.ensures.wired on.changed c.ends.result c.args.movers.now c.look_at.new.movers c.look_at-in-Some.new.movers c.ends.ensures c.look_at.ensures c.look_at-in-Some.ensures was.2
