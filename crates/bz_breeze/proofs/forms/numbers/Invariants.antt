use Rattle.std.proofs.Common.{◌≡◌, length}
use Rattle.bz_sexpr.specs.Forms.{forms_view}
use Rattle.bz_breeze.specs.Turns.{in_turn, beside}
use Rattle.bz_breeze.specs.Forms.{numbers, number}
use Rattle.bz_breeze.proofs.forms.numbers.Given as goal

abbrev pub invariant-loop-form : goal.invariant-loop-form
invariant-loop-form l = numbers (forms_view l.list) ≡ in_turn (beside (λ before d. number d)) l.numbers.items (forms_view l.rest)

abbrev pub decreases-loop-form : goal.decreases-loop-form
decreases-loop-form l = length (forms_view l.rest)
