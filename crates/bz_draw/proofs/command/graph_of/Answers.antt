use Rattle.bz_draw.proofs.command.graph_of.Goals as goal

pub returns-clause-net : goal.returns-clause-net
returns-clause-net c = (c.in_ok-flat.flat.wiring, c.in_ok-flat.ensures.net)
