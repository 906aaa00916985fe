use Rattle.std.proofs.Common.{◌≡◌, ◌-◌, ◌≤◌, slice_get, drop}
use Rattle.bz_elab.specs.Entries.{lists}
use Rattle.bz_elab.proofs.component.list.Given as goal

abbrev pub invariant-loop-entry : goal.invariant-loop-entry
invariant-loop-entry l = (l.before ≤ l.place) × (slice_get (lists l.entries) l.place ≡ slice_get (lists (drop l.entry-index l.entries)) (l.place - l.before))
