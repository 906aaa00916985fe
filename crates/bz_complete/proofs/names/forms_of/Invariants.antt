use Rattle.std.proofs.Common.{◌≡◌, map, take}
use Rattle.bz_model.specs.Names.{external}
use Rattle.bz_complete.specs.Named.{port_form}
use Rattle.bz_complete.proofs.names.forms_of.Given as goal

abbrev pub invariant-loop-port : goal.invariant-loop-port
invariant-loop-port l = map (λ form. form.items) l.forms.items ≡ map port_form (map external (take l.port-index l.ports))
