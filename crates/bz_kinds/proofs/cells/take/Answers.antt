use Rattle.std.proofs.Common.{inl, refl}
use Rattle.bz_kinds.specs.declared.ports.PortState.TheVariants.{OpenDue}
use Rattle.bz_kinds.proofs.CellsLaws.{steps, taken-sure}
use Rattle.bz_kinds.proofs.cells.take.Goals as goal

pub returns-clause-steps : goal.returns-clause-steps
returns-clause-steps c = rw c.open.ensures (steps _ _ c.requires.place c.args.port OpenDue (λ z. cc) (inl (refl, c.requires.due)))

pub returns-clause-sure : goal.returns-clause-sure
returns-clause-sure c = rw c.open.ensures (taken-sure _ _ c.requires.place c.args.port c.requires.due)
