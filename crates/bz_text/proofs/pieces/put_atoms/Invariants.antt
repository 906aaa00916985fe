use Rattle.std.proofs.Common.{take}
use Rattle.std.specs.List.{flat_map}
use Rattle.std.specs.Io.KnownBytes.{Appends}
use Rattle.bz_text.specs.Pieces.{atom_text}
use Rattle.bz_text.proofs.pieces.put_atoms.Given as goal

abbrev pub invariant-loop-atom : goal.invariant-loop-atom
invariant-loop-atom g l = Appends (g.W.Write.contents l.initial.out) (g.W.Write.contents l.out) (flat_map atom_text (take l.atom-index l.atoms))
