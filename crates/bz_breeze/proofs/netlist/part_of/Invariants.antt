use Rattle.std.proofs.Common.{◌≡◌, length}
use Rattle.bz_sexpr.specs.Forms.{forms_view}
use Rattle.bz_breeze.specs.Turns.{in_turn}
use Rattle.bz_breeze.specs.Views.{lists_view}
use Rattle.bz_breeze.specs.Parts.{form, no_lists}
use Rattle.bz_breeze.proofs.netlist.part_of.Given as goal

abbrev pub invariant-loop-item : goal.invariant-loop-item
invariant-loop-item l = in_turn form no_lists (forms_view l.forms) ≡ in_turn form (lists_view l.lists) (forms_view l.rest)

abbrev pub decreases-loop-item : goal.decreases-loop-item
decreases-loop-item l = length (forms_view l.rest)
