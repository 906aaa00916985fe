use Rattle.std.proofs.Common.{◌-◌, ◌+◌, ◌≤◌, vec_len, length, ◌≡◌}
use Rattle.std.specs.Io.KnownBytes.{Consumes}
use Rattle.bz_cli_input.specs.declared.input.TheConstants.{INPUT_LIMIT}
use Rattle.bz_cli_input.proofs.input.read_input.Given as goal

abbrev pub invariant-reading : goal.invariant-reading
invariant-reading g l = record {
  taken : Consumes (g.R.Read.remaining l.initial.input) (g.R.Read.remaining l.input) l.text.items;
  fits : vec_len l.text ≤ INPUT_LIMIT + 1;
  chunk : length l.chunk ≡ 8192;
}

abbrev pub decreases-reading : goal.decreases-reading
decreases-reading g l = INPUT_LIMIT + 1 - vec_len l.text
