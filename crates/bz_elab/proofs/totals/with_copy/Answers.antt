use Rattle.std.proofs.Common.{arith, inl}
use Rattle.bz_elab.proofs.Totaling.{brings_copy}
use Rattle.bz_elab.proofs.totals.with_copy.Goals as goal

pub returns-clause-brings : goal.returns-clause-brings
returns-clause-brings c stops more i path b d =
    let p = c.args.part.now in
    brings_copy _ stops more i path p (c.capped.ensures.is _ _ b.comps d.comps) (c.capped-3.ensures.is _ _ (c.capped-2.ensures.is _ _ b.chans (inl (omega arith))) d.chans) (c.capped-4.ensures.is _ _ b.ends d.ends)
