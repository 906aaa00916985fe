use Rattle.std.proofs.Common.{ap}
use Rattle.bz_model.specs.Rows.{KindRow}
use Rattle.bz_kind_rows.proofs.table.port_table.Goals as goal

pub returns : goal.returns
returns c = ap (λ (r : KindRow). r.ports) c.row_of.ensures
