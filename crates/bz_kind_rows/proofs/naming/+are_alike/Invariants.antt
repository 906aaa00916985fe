use Rattle.std.proofs.Common.{length}
use Rattle.bz_kind_rows.proofs.naming.+are_alike.Given as goal

abbrev pub decreases-are_alike : goal.decreases-are_alike
decreases-are_alike l = length l.name.now
