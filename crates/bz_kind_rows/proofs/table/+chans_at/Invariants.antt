use Rattle.std.proofs.Common.{length}
use Rattle.bz_kind_rows.proofs.table.+chans_at.Given as goal

abbrev pub decreases-chans_at : goal.decreases-chans_at
decreases-chans_at l = length l.rows.now
