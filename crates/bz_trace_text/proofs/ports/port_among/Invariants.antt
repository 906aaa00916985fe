use Rattle.std.proofs.Common.{◌≡◌, suc, map, drop}
use Rattle.bz_model.specs.Names.{external}
use Rattle.bz_trace_text.specs.Reading.{port_from}
use Rattle.bz_trace_text.proofs.ports.port_among.Given as goal

abbrev pub invariant-loop-place : goal.invariant-loop-place
invariant-loop-place l = port_from 1 (map external l.ports) l.text ≡ port_from (suc l.place) (map external (drop l.place l.ports)) l.text
