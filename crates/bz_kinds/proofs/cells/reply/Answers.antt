use Rattle.std.proofs.Common.{inr, refl}
use Rattle.bz_kinds.specs.declared.ports.PortState.TheVariants.{ClosedDue}
use Rattle.bz_kinds.proofs.CellsLaws.{steps}
use Rattle.bz_kinds.proofs.cells.reply.Goals as goal

pub returns : goal.returns
returns c = rw c.close.ensures (steps _ _ c.requires.place c.args.port ClosedDue (λ z. cc) (inr (refl, λ e. cc)))
