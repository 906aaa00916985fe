use Rattle.std.proofs.Common.{take}
use Rattle.std.specs.List.{flat_map}
use Rattle.std.specs.Io.KnownBytes.{Appends}
use Rattle.bz_text.specs.FileNames.{file_byte}
use Rattle.bz_text.proofs.file_name.put_file_name.Given as goal

abbrev pub invariant-loop-byte : goal.invariant-loop-byte
invariant-loop-byte g l = Appends (g.W.Write.contents l.initial.out) (g.W.Write.contents l.out) (flat_map file_byte (take l.byte-index l.name))
