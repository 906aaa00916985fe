use Rattle.std.proofs.Common.{map}
use Rattle.bz_model.specs.Names.{external}
use Rattle.bz_flat.specs.declared.error.ElabError.TheVariants.{PortSense}
use Rattle.bz_elab.specs.EndFaults.{Adds, HostAt}
use Rattle.bz_elab.proofs.Gathering.{Upto}
use Rattle.bz_elab.proofs.ends.add_misused.Given as goal

abbrev pub invariant-loop-k : goal.invariant-loop-k
invariant-loop-k l = Adds PortSense (Upto (HostAt (map external l.ports) l.ends) l.k) l.fn.faults.items l.faults.items
