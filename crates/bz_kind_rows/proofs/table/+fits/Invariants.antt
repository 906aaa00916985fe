use Rattle.std.proofs.Common.{length}
use Rattle.bz_kind_rows.proofs.table.+fits.Given as goal

abbrev pub decreases-fits : goal.decreases-fits
decreases-fits l = length l.rows.now
