use Rattle.bz_cli_trace.proofs.Joins.{piece_found}
use Rattle.bz_cli_trace.proofs.joining.judge_piece.Goals as goal

pub returns-in-Ok-clause-found : goal.returns-in-Ok-clause-found
returns-in-Ok-clause-found g c past behind =
    let said = c.in-Ok.ensures in
    rw c.into_net-net.ensures.net
    (piece_found c.args.way.to_first c.args.way.to_rest c.args.is_last _ past _ _ _ said.wiring (said.right past behind) (λ is. said.goes_on is past behind) said.whole (λ so. said.first so past behind) (rw c.into_net-net.ensures.net at c.moves_on-unrested.ensures))
