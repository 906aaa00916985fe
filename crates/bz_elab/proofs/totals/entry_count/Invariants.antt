use Rattle.std.proofs.Common.{◌≤◌, ◌+◌, length, take}
use Rattle.bz_elab.specs.Entries.{flattened}
use Rattle.bz_elab.specs.Refusals.{most_ends}
use Rattle.bz_elab.specs.Totals.{Capped}
use Rattle.bz_elab.proofs.totals.entry_count.Given as goal

abbrev pub invariant-loop-entry : goal.invariant-loop-entry
invariant-loop-entry l = record {
  within : l.count ≤ most_ends + 1;
  is : Capped most_ends l.count (length (flattened (take l.entry-index l.entries)));
}
