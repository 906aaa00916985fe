use Rattle.bz_kinds.proofs.ChoiceOnward.{asked-waits}
use Rattle.bz_kinds.proofs.choice.ask.Goals as goal

pub returns-clause-waits : goal.returns-clause-waits
returns-clause-waits c = rw (c.set.ensures, c.out.ensures) (asked-waits c.args.mix.now c.args.size c.args.i c.args.ports.now c.requires.place c.requires.due)
