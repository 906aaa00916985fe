use Rattle.std.proofs.Common.{◌≡◌, ◌≤◌, length, take}
use Rattle.bz_elab.specs.Entries.{lists}
use Rattle.bz_elab.proofs.component.list_count.Given as goal

abbrev pub invariant-loop-entry : goal.invariant-loop-entry
invariant-loop-entry l = record { count : l.count ≡ length (lists (take l.entry-index l.entries)); within : l.count ≤ l.entry-index }
