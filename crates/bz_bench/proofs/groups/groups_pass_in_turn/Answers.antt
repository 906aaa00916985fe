use Rattle.bz_bench.proofs.Ordered.{in_turn}
use Rattle.bz_bench.proofs.groups.groups_pass_in_turn.Goals as goal

pub returns : goal.returns
returns c = in_turn
