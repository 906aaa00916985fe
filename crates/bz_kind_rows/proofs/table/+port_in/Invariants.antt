use Rattle.std.proofs.Common.{length}
use Rattle.bz_kind_rows.proofs.table.+port_in.Given as goal

abbrev pub decreases-port_in : goal.decreases-port_in
decreases-port_in l = length l.rows.now
