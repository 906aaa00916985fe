use Rattle.bz_flat.specs.declared.error.ElabError.TheVariants.{LooseEnd}
use Rattle.bz_elab.specs.EndFaults.{Adds, OneAt}
use Rattle.bz_elab.proofs.Gathering.{Upto}
use Rattle.bz_elab.proofs.ends.add_loose.Given as goal

abbrev pub invariant-loop-k : goal.invariant-loop-k
invariant-loop-k l = Adds LooseEnd (Upto (OneAt l.ports l.ends) l.k) l.fn.faults.items l.faults.items
