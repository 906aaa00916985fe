use Rattle.std.proofs.Common.{length}
use Rattle.bz_cli_kinds.proofs.items.+array_name.Given as goal

abbrev pub decreases-array_name : goal.decreases-array_name
decreases-array_name l = length l.ports.now
