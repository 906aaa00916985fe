use Rattle.std.proofs.Common.{◌≡◌, ℕ, List, ◌++◌, take}
use Rattle.std.specs.List.{flat_map}
use Rattle.std.specs.Io.KnownBytes.{Appends}
use Rattle.bz_model.specs.Traces.{line_text}
use Rattle.bz_trace_text.proofs.trace.put_lines.Given as goal

abbrev pub invariant-loop-entry : goal.invariant-loop-entry
invariant-loop-entry g l = (sent : List ℕ) × (flat_map (line_text l.names.ports) (take l.entry-index l.entries) ≡ sent ++ l.page) × Appends (g.W.Write.contents l.initial.out) (g.W.Write.contents l.out) sent
