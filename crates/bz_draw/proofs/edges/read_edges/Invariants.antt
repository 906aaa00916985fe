use Rattle.std.proofs.Common.{map}
use Rattle.bz_model.specs.Names.{external}
use Rattle.bz_draw.proofs.EdgeLaws.{Reads}
use Rattle.bz_draw.proofs.edges.read_edges.Given as goal

abbrev pub invariant-loop-i : goal.invariant-loop-i
invariant-loop-i l = Reads (map external l.ports) l.boxes l.ends l.i l.edges.items
