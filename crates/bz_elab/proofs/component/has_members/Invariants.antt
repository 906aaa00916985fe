use Rattle.std.proofs.Common.{◌≤◌, length, take, drop}
use Rattle.std.specs.List.{All}
use Rattle.bz_model.specs.declared.kind.TheConstants.{MAX_MEMBERS}
use Rattle.bz_elab.specs.Entries.{lists}
use Rattle.bz_elab.proofs.component.has_members.Given as goal

abbrev pub invariant-loop-entry : goal.invariant-loop-entry
invariant-loop-entry l = record { passed : All (λ m. length m ≤ MAX_MEMBERS) (lists (take l.entry-index l.entries)); left : All (λ m. length m ≤ MAX_MEMBERS) (lists l.entries) → All (λ m. length m ≤ MAX_MEMBERS) (lists (drop l.entry-index l.entries)) }
