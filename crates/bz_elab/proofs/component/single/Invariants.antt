use Rattle.std.proofs.Common.{◌≡◌, ◌-◌, ◌≤◌, slice_get, drop}
use Rattle.bz_elab.specs.Entries.{singles}
use Rattle.bz_elab.proofs.component.single.Given as goal

abbrev pub invariant-loop-entry : goal.invariant-loop-entry
invariant-loop-entry l = (l.before ≤ l.place) × (slice_get (singles l.entries) l.place ≡ slice_get (singles (drop l.entry-index l.entries)) (l.place - l.before))
