use Rattle.std.proofs.Common.{◌≡◌, length}
use Rattle.bz_sexpr.specs.Forms.{forms_view}
use Rattle.bz_source.specs.Labels.{first_source}
use Rattle.bz_source.proofs.labels.first_source.Given as goal

abbrev pub invariant-loop-member : goal.invariant-loop-member
invariant-loop-member l = first_source (forms_view l.members) ≡ first_source (forms_view l.rest)

abbrev pub decreases-loop-member : goal.decreases-loop-member
decreases-loop-member l = length (forms_view l.rest)
