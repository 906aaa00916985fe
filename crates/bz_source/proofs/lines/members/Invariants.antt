use Rattle.std.proofs.Common.{◌≡◌, length}
use Rattle.bz_sexpr.specs.Forms.{forms_view}
use Rattle.bz_breeze.specs.Shapes.{members_of}
use Rattle.bz_source.proofs.lines.members.Given as goal

abbrev pub invariant-loop-item : goal.invariant-loop-item
invariant-loop-item l = members_of l.head (forms_view l.items) ≡ members_of l.head (forms_view l.rest)

abbrev pub decreases-loop-item : goal.decreases-loop-item
decreases-loop-item l = length (forms_view l.rest)
