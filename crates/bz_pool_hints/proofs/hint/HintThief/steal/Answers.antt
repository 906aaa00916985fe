use Rattle.bz_pool_hints.proofs.HintMoves.{takes}
use Rattle.bz_pool_hints.proofs.HintHistories.{finds_few}
use Rattle.bz_pool_hints.proofs.hint.HintThief.steal.Goals as goal

pub steal_as-requires-clause-takes : goal.steal_as-requires-clause-takes
steal_as-requires-clause-takes c = takes _ _

pub steal_as-requires-clause-empty : goal.steal_as-requires-clause-empty
steal_as-requires-clause-empty c = finds_few _ _ _ c.self.invariant
