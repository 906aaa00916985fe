use Rattle.std.proofs.Common.{take}
use Rattle.bz_elab.specs.Paths.{each_from}
use Rattle.bz_source.specs.Found.{components_of, found_at, found_in}
use Rattle.bz_source.specs.Views.{Finds}
use Rattle.bz_source.proofs.walk.+descend.Given as goal

abbrev pub decreases-descend : goal.decreases-descend
decreases-descend l = l.depth

abbrev pub invariant-loop-i : goal.invariant-loop-i
invariant-loop-i l =
    Finds l.fn.finds l.finds (each_from 1 (found_at l.ground.parts.now l.number l.path (found_in l.ground.parts.now l.depth)) (take l.i (components_of l.ground.parts.now l.number)))
