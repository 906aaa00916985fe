use Rattle.std.proofs.Common.{length}
use Rattle.bz_kind_rows.proofs.table.+is_sum.Given as goal

abbrev pub decreases-is_sum : goal.decreases-is_sum
decreases-is_sum l = length l.places.now
