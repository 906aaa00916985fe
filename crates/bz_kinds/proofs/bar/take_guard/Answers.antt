use Rattle.std.proofs.Common.{arith}
use Rattle.bz_model.specs.Processes.{after}
use Rattle.bz_kinds.proofs.BarSteps.{took_guard}
use Rattle.bz_kinds.proofs.bar.take_guard.Goals as goal

pub returns : goal.returns
returns c =
    let b = c.set_between.ensures in
    rw c.set.ensures (took_guard _ _ _ c.requires.place c.requires.due c.set_between.new.self c.args.slots.now b.long (λ p lt. b.below p (omega arith)) (λ i lt. b.within (after i) (omega arith) (omega arith)) (λ p le. b.above p (omega arith)))

pub set_between-requires-clause-fits : goal.set_between-requires-clause-fits
set_between-requires-clause-fits c = let l = c.requires.place.long in omega arith
