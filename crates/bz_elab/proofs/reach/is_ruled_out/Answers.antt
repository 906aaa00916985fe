use Rattle.bz_elab.proofs.Ranking.{not_below}
use Rattle.bz_elab.proofs.reach.is_ruled_out.Goals as goal

pub returns-then-is_ranked : goal.returns-then-is_ranked
returns-then-is_ranked c told = not_below c.args.parts.now c.args.ranks.now c.args.place (c.requires.ranked c.if-is_ranked.true) (c.falls.ensures told)
