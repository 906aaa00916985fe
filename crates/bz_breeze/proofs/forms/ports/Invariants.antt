use Rattle.std.proofs.Common.{◌≡◌, map, length}
use Rattle.bz_model.specs.Names.{external}
use Rattle.bz_sexpr.specs.Forms.{forms_view}
use Rattle.bz_breeze.specs.Turns.{in_turn, beside, at_byte, place_of}
use Rattle.bz_breeze.specs.Forms.{ports, new_port, names_of}
use Rattle.bz_breeze.proofs.forms.ports.Given as goal

abbrev pub invariant-loop-member : goal.invariant-loop-member
invariant-loop-member l = record {
  read : ports (forms_view l.members) ≡ in_turn (beside (λ before d. at_byte (place_of d) (new_port before d))) (map external l.ports.items) (forms_view l.rest);
  names : l.names ≡ names_of (map external l.ports.items);
}

abbrev pub decreases-loop-member : goal.decreases-loop-member
decreases-loop-member l = length (forms_view l.rest)
