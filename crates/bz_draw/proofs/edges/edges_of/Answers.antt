use Rattle.std.proofs.Common.{sym, subst}
use Rattle.bz_cli_source.specs.Surveys.{wiring_in}
use Rattle.bz_draw.specs.Drawn.{AreEdges}
use Rattle.bz_draw.proofs.EdgeLaws.{are_edges}
use Rattle.bz_draw.proofs.edges.edges_of.Goals as goal

pub returns : goal.returns
returns c =
    let w = wiring_in c.args.net.now in
    let read = rw (c.deref.ensures.value, c.deref-2.ensures.value) at c.in_ok-edges.ensures in
    subst (AreEdges w c.args.boxes.now) (sym read) (are_edges w c.args.net.now.ends.items c.args.boxes.now c.requires.ends c.requires.wired)
