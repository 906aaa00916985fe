use Rattle.bz_pool_hints.proofs.HintMoves.{merges, hands_over}
use Rattle.bz_pool_hints.proofs.hint.HintPass.join.Goals as goal

pub absorb-requires-clause-rule : goal.absorb-requires-clause-rule
absorb-requires-clause-rule c = merges _ _ _ _

pub absorb-requires-2-clause-rule : goal.absorb-requires-2-clause-rule
absorb-requires-2-clause-rule c = merges _ _ _ _

pub another-requires : goal.another-requires
another-requires c = hands_over _ _
