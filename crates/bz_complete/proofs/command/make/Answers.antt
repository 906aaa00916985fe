use Rattle.bz_complete.proofs.command.make.Goals as goal

pub returns-in-Ok : goal.returns-in-Ok
returns-in-Ok c = c.made.ensures c.args.flat.wiring c.in-Ok.ensures.completed c.in-Ok.ensures.dead c.in-Ok.ensures.refuted
