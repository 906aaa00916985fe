use Rattle.bz_net.proofs.core_net.Core.foretell.Goals as goal

pub foretell-told-requires-clause-links : goal.foretell-told-requires-clause-links
foretell-told-requires-clause-links c = rw c.deref.ensures.value c.self.invariant.1
