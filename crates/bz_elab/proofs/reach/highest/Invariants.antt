use Rattle.std.proofs.Common.{take}
use Rattle.bz_elab.specs.Numbers.{IsHighest}
use Rattle.bz_elab.proofs.reach.highest.Given as goal

abbrev pub invariant-loop-component : goal.invariant-loop-component
invariant-loop-component l = IsHighest l.parts l.ranks (take l.component-index l.component-items) l.highest
