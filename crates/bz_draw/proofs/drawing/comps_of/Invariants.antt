use Rattle.std.proofs.Common.{◌≡◌, map}
use Rattle.bz_draw.specs.Drawn.{alone}
use Rattle.bz_draw.proofs.drawing.comps_of.Given as goal

abbrev pub invariant-loop-i : goal.invariant-loop-i
invariant-loop-i l = map (λ n. n.1) l.comps.items ≡ alone l.folding.boxes.items l.i
