use Rattle.std.proofs.Common.{arith}
use Rattle.std.proofs.lemmas.List.Folds.{flat_map-map}
use Rattle.bz_kind_rows.specs.Table.{seen}
use Rattle.bz_page.specs.Rows.{port_word}
use Rattle.bz_page.proofs.Grown.{grows_all}
use Rattle.bz_page.proofs.rows.put_ports.Goals as goal

pub returns : goal.returns
returns c = rw (flat_map-map port_word seen c.args.ports.now) (grows_all (λ port. port_word (seen port)) c.args.ports.now c.loop-port.port-index _ _ (omega arith) c.loop-port.invariant)
