use Rattle.std.proofs.Common.{◌≡◌, take}
use Rattle.bz_elab.specs.Entries.{flattened}
use Rattle.bz_elab.proofs.component.flattened.Given as goal

abbrev pub invariant-loop-entry : goal.invariant-loop-entry
invariant-loop-entry l = l.named.items ≡ flattened (take l.entry-index l.entries)
