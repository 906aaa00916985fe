use Rattle.std.proofs.Common.{length}
use Rattle.bz_sexpr.proofs.bytes.+has_backslash.Given as goal

abbrev pub decreases-has_backslash : goal.decreases-has_backslash
decreases-has_backslash l = length l.bytes.now
