use Rattle.bz_kinds.proofs.TogetherOnward.{ended-waits}
use Rattle.bz_kinds.proofs.together.reply.Goals as goal

pub returns-clause-waits : goal.returns-clause-waits
returns-clause-waits c = rw c.close.ensures (ended-waits _ _ _ c.requires.place c.requires.due)
