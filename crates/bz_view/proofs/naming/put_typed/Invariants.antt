use Rattle.std.proofs.Common.{take}
use Rattle.std.specs.List.{flat_map}
use Rattle.bz_text.specs.Growing.{Grows}
use Rattle.bz_view.specs.Naming.{typed_byte}
use Rattle.bz_view.proofs.naming.put_typed.Given as goal

abbrev pub invariant-loop-byte : goal.invariant-loop-byte
invariant-loop-byte l = Grows l.initial.text l.text (flat_map typed_byte (take l.byte-index l.name))
