use Rattle.std.proofs.Common.{◌≡◌, map, length}
use Rattle.bz_sexpr.specs.Forms.{forms_view}
use Rattle.bz_breeze_records.specs.Records.{component_record}
use Rattle.bz_breeze.specs.Turns.{in_turn, beside, at_byte, place_of}
use Rattle.bz_breeze.specs.Forms.{components, component}
use Rattle.bz_breeze.proofs.forms.components.Given as goal

abbrev pub invariant-loop-member : goal.invariant-loop-member
invariant-loop-member l = components (forms_view l.members) ≡ in_turn (beside (λ before d. at_byte (place_of d) (component d))) (map component_record l.components.items) (forms_view l.rest)

abbrev pub decreases-loop-member : goal.decreases-loop-member
decreases-loop-member l = length (forms_view l.rest)
