use denote.RattleType.{RattleType}
use denote.Param.Send.{IsSend}
use Rattle.bz_arena.proofs.Crossing.{Nodes-send}
use Rattle.bz_arena.specs.contracts.block.Nodes.{the_row}

pub send : (R : RattleType) → IsSend R → IsSend (the_row R)
send = Nodes-send
