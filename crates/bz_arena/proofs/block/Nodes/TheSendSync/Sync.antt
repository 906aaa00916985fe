use denote.RattleType.{RattleType}
use denote.Param.Send.{IsSync}
use Rattle.bz_arena.proofs.Crossing.{Nodes-sync}
use Rattle.bz_arena.specs.contracts.block.Nodes.{the_row}

pub sync : (R : RattleType) → IsSync R → IsSync (the_row R)
sync = Nodes-sync
