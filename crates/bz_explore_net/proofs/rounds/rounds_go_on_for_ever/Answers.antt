use Rattle.bz_explore_net.proofs.Again.{round_again}
use Rattle.bz_explore_net.proofs.rounds.rounds_go_on_for_ever.Goals as goal

pub returns : goal.returns
returns c = round_again
