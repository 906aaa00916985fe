use Rattle.std.proofs.Common.{length}
use Rattle.bz_kind_rows.proofs.table.+carry.Given as goal

abbrev pub decreases-carry : goal.decreases-carry
decreases-carry l = length l.rows.now
