use Rattle.std.proofs.Common.{arith}
use Rattle.bz_sexpr.proofs.Rows.{first_seen}
use Rattle.bz_sexpr.proofs.nodes.NodeRow.split_first.Goals as goal

pub returns-clause-some : goal.returns-clause-some
returns-clause-some c =
    let r = c.args.self in
    first_seen r.nodes.now r.from r.count _ r.within (omega arith) c.node_at-node.ensures
