use Rattle.std.proofs.Common.{◌≡◌, drop}
use Rattle.bz_model.specs.Specifications.{set_of}
use Rattle.bz_model.proofs.spans.first_set.Given as goal

abbrev pub invariant-loop-span : goal.invariant-loop-span
invariant-loop-span l = set_of l.spans l.none l.value ≡ set_of (drop l.span-index l.spans) l.none l.value
