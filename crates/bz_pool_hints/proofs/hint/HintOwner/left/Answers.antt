use Rattle.bz_pool_hints.proofs.HintHistories.{learns}
use Rattle.bz_pool_hints.proofs.hint.HintOwner.left.Goals as goal

pub len_as-requires : goal.len_as-requires
len_as-requires c = learns _ _ c.self.invariant.1
