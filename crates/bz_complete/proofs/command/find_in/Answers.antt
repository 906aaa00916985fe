use Rattle.bz_complete.proofs.Completed.{read_so}
use Rattle.bz_complete.proofs.command.find_in.Goals as goal

pub returns-in-Ok : goal.returns-in-Ok
returns-in-Ok c = read_so c.args.flat.wiring c.args.names.now c.args.short.now c.in-Ok.moves.items c.make_all.result c.in-Ok.ensures.ok (rw c.as_slice.ensures.value at c.make_all.ensures)
