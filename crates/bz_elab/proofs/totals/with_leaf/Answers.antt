use Rattle.std.proofs.Common.{refl, inl}
use Rattle.bz_elab.proofs.Totaling.{brings_leaf}
use Rattle.bz_elab.proofs.totals.with_leaf.Goals as goal

pub returns-clause-brings : goal.returns-clause-brings
returns-clause-brings c stops path b =
    let count = rw c.as_slice.ensures.value at c.entry_count.ensures in
    brings_leaf c.args.total _ stops path c.args.component.now refl (c.capped.ensures.is _ _ b.comps (inl refl)) (c.capped-2.ensures.is _ _ b.ends count) b
