use Rattle.bz_pool_hints.proofs.HintMoves.{pushes}
use Rattle.bz_pool_hints.proofs.hint.HintOwner.push.Goals as goal

pub push_as-requires-clause-pushes : goal.push_as-requires-clause-pushes
push_as-requires-clause-pushes c = pushes _ _ _ c.self.invariant.1
