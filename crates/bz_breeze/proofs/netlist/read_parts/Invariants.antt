use Rattle.std.proofs.Common.{◌≡◌, map, length, All}
use Rattle.bz_sexpr.specs.Forms.{forms_view}
use Rattle.bz_breeze_records.specs.Records.{part_record}
use Rattle.bz_breeze.specs.Turns.{in_turn}
use Rattle.bz_breeze.specs.Parts.{part, parts}
use Rattle.bz_breeze_records.specs.Parts.{HasPortChannels}
use Rattle.bz_breeze.proofs.netlist.read_parts.Given as goal

abbrev pub invariant-loop-form : goal.invariant-loop-form
invariant-loop-form l = record {
  read : parts (forms_view l.netlist) ≡ in_turn part (map part_record l.list.items) (forms_view l.rest);
  names : l.names ≡ map (λ p. p.name.items) l.list.items;
  fits : All HasPortChannels l.list.items;
}

abbrev pub decreases-loop-form : goal.decreases-loop-form
decreases-loop-form l = length (forms_view l.rest)
