use Rattle.std.proofs.Common.{ap, ◌∙◌}
use Rattle.bz_pool_hints.proofs.HintMoves.{merges, hands_over}
use Rattle.bz_pool_hints.proofs.HintHistories.{learns}
use Rattle.bz_pool_hints.proofs.hint.HintPass.account.Goals as goal

pub absorb-requires-clause-rule : goal.absorb-requires-clause-rule
absorb-requires-clause-rule c = merges _ _ _ _

pub len_as-left-requires : goal.len_as-left-requires
len_as-left-requires c = learns _ _ (ap (λ v. v.owner) c.absorb.ensures.rule ∙ c.owner.invariant.1)

pub another-requires : goal.another-requires
another-requires c = hands_over _ _
