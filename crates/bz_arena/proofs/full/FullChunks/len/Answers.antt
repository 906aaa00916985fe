use Rattle.std.proofs.Common.{length, ap, arith}
use Rattle.bz_arena.proofs.Joined.{length-joined}
use Rattle.bz_arena.proofs.full.FullChunks.len.Goals as goal

pub returns-clause-nodes : goal.returns-clause-nodes
returns-clause-nodes g c = omega (arith, length-joined c.self.inside.list.items, ap length c.self.view_is, c.self.invariant.0)
