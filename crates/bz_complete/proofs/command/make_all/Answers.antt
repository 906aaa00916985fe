use Rattle.bz_complete.proofs.command.make_all.Goals as goal

pub returns-in-Ok : goal.returns-in-Ok
returns-in-Ok c = c.rested.ensures c.args.flat.wiring c.args.moves.now (rw c.in-Ok.is at c.make-made.ensures)
