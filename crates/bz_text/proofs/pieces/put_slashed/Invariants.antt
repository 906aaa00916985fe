use Rattle.std.proofs.Common.{take}
use Rattle.std.specs.List.{flat_map}
use Rattle.std.specs.Io.KnownBytes.{Appends}
use Rattle.bz_text.specs.Pieces.{slashed}
use Rattle.bz_text.proofs.pieces.put_slashed.Given as goal

abbrev pub invariant-loop-number : goal.invariant-loop-number
invariant-loop-number g l = Appends (g.W.Write.contents l.initial.out) (g.W.Write.contents l.out) (flat_map slashed (take l.number-index l.numbers))
