use Rattle.std.proofs.Common.{refl}
use Rattle.bz_complete.proofs.Refusals.{nobody_refused}
use Rattle.bz_complete.proofs.refusing.refuse_nobody.Goals as goal

pub returns : goal.returns
returns c = (refl, nobody_refused c.args.net.now c.args.due c.journal.ensures.wired c.journal.ensures.run c.requires.maker)
