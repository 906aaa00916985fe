use Rattle.std.proofs.Common.{length}
use Rattle.bz_kind_rows.proofs.table.+passive_at.Given as goal

abbrev pub decreases-passive_at : goal.decreases-passive_at
decreases-passive_at l = length l.rows.now
