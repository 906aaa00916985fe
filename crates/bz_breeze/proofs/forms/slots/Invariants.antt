use Rattle.std.proofs.Common.{◌≡◌, map, length}
use Rattle.bz_sexpr.specs.Forms.{forms_view}
use Rattle.bz_breeze_records.specs.Records.{slot_record}
use Rattle.bz_breeze.specs.Turns.{in_turn, beside}
use Rattle.bz_breeze.specs.Forms.{slots, slot}
use Rattle.bz_breeze.proofs.forms.slots.Given as goal

abbrev pub invariant-loop-form : goal.invariant-loop-form
invariant-loop-form l = slots (forms_view l.list) ≡ in_turn (beside (λ before d. slot d)) (map slot_record l.slots.items) (forms_view l.rest)

abbrev pub decreases-loop-form : goal.decreases-loop-form
decreases-loop-form l = length (forms_view l.rest)
