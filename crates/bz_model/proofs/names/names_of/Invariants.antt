use Rattle.std.proofs.Common.{◌≡◌, map, take}
use Rattle.bz_model.proofs.names.names_of.Given as goal

abbrev pub invariant-loop-port : goal.invariant-loop-port
invariant-loop-port l = map (λ name. name.items) l.names.items ≡ map (λ p. p.name.items) (take l.port-index l.ports)
