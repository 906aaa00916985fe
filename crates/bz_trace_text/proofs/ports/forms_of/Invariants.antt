use Rattle.std.proofs.Common.{◌≡◌, map, take}
use Rattle.bz_model.specs.Names.{external}
use Rattle.bz_trace_text.specs.Reading.{form_of}
use Rattle.bz_trace_text.proofs.ports.forms_of.Given as goal

abbrev pub invariant-loop-port : goal.invariant-loop-port
invariant-loop-port l = map (λ form. form.items) l.forms.items ≡ map form_of (map external (take l.port-index l.ports))
