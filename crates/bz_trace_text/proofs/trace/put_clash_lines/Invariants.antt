use Rattle.std.proofs.Common.{take}
use Rattle.std.specs.List.{flat_map}
use Rattle.std.specs.Io.KnownBytes.{Appends}
use Rattle.bz_model.specs.Traces.{clash_text}
use Rattle.bz_trace_text.proofs.trace.put_clash_lines.Given as goal

abbrev pub invariant-loop-comp : goal.invariant-loop-comp
invariant-loop-comp g l = Appends (g.W.Write.contents l.initial.out) (g.W.Write.contents l.out) (flat_map clash_text (take l.comp-index l.clashes))
