use Rattle.std.proofs.Common.{take}
use Rattle.std.specs.List.{flat_map}
use Rattle.std.specs.Io.KnownBytes.{Appends}
use Rattle.bz_text.specs.Pieces.{stepped}
use Rattle.bz_text.proofs.pieces.put_steps.Given as goal

abbrev pub invariant-loop-step : goal.invariant-loop-step
invariant-loop-step g l = Appends (g.W.Write.contents l.initial.out) (g.W.Write.contents l.out) (flat_map stepped (take l.step-index l.path))
