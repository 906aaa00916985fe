use Rattle.std.proofs.Common.{◌≡◌, map}
use Rattle.bz_complete.specs.Named.{labels_from}
use Rattle.bz_complete.proofs.names.labels_of.Given as goal

abbrev pub invariant-loop-place : goal.invariant-loop-place
invariant-loop-place l = map (λ form. form.items) l.labels.items ≡ labels_from l.survey 1 l.place
