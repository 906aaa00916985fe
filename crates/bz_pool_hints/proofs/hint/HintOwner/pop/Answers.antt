use Rattle.bz_pool_hints.proofs.HintMoves.{takes}
use Rattle.bz_pool_hints.proofs.HintHistories.{finds}
use Rattle.bz_pool_hints.proofs.hint.HintOwner.pop.Goals as goal

pub pop_as-requires-clause-fifo : goal.pop_as-requires-clause-fifo
pop_as-requires-clause-fifo c = λ _. takes _ _

pub pop_as-requires-clause-empty : goal.pop_as-requires-clause-empty
pop_as-requires-clause-empty c = finds _ _
