use Rattle.std.proofs.Common.{take}
use Rattle.std.specs.List.{flat_map}
use Rattle.bz_text.specs.Growing.{Grows}
use Rattle.bz_kind_rows.specs.Table.{seen}
use Rattle.bz_page.specs.Rows.{port_word}
use Rattle.bz_page.proofs.rows.put_ports.Given as goal

abbrev pub invariant-loop-port : goal.invariant-loop-port
invariant-loop-port l = Grows l.initial.rows l.rows (flat_map (λ port. port_word (seen port)) (take l.port-index l.ports))
