use Rattle.std.proofs.Common.{arith}
use Rattle.bz_sexpr.proofs.Rows.{length_seen, back_seen}
use Rattle.bz_sexpr.proofs.nodes.NodeRow.split_at.Goals as goal

pub returns-clause-back : goal.returns-clause-back
returns-clause-back c =
    let r = c.args.self in
    back_seen r.nodes.now r.from r.count c.args.count (omega (arith, c.requires, length_seen r.nodes.now r.from r.count r.within))
