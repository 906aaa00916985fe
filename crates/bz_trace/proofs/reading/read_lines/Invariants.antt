use Rattle.std.proofs.Common.{ℕ, List, ◌++◌, ◌-◌, length, ◌≡◌, vec_len}
use Rattle.std.specs.Io.KnownBytes.{Consumes}
use Rattle.bz_trace.proofs.reading.read_lines.Given as goal

abbrev pub invariant-reading : goal.invariant-reading
invariant-reading g l = record {
  came : (piece : List ℕ) × Consumes (g.R.Read.remaining l.initial.input) (g.R.Read.remaining l.input) piece × (l.held.items ≡ l.initial.held.items ++ piece);
  chunk : length l.piece ≡ 65536;
}

abbrev pub decreases-reading : goal.decreases-reading
decreases-reading g l = l.goal - vec_len l.held
