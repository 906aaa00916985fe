use Rattle.bz_kinds.proofs.ScriptOnward.{entered}
use Rattle.bz_kinds.proofs.script.take.Goals as goal

pub returns-in_default-clause-sure : goal.returns-in_default-clause-sure
returns-in_default-clause-sure c goes = rw c.enter.ensures (entered c.args.script _ _ c.requires.place goes)
