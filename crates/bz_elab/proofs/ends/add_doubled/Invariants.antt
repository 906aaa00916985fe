use Rattle.bz_flat.specs.declared.error.ElabError.TheVariants.{TwoEnds}
use Rattle.bz_elab.specs.EndFaults.{Adds, TwoAt}
use Rattle.bz_elab.proofs.Gathering.{Upto}
use Rattle.bz_elab.proofs.ends.add_doubled.Given as goal

abbrev pub invariant-loop-k : goal.invariant-loop-k
invariant-loop-k l = Adds TwoEnds (Upto (TwoAt l.doubled) l.k) l.fn.faults.items l.faults.items
