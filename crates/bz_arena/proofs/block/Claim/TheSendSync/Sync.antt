use denote.RattleType.{RattleType}
use denote.Param.Send.{IsSync}
use Rattle.core.specs.declared.alloc.Allocator.{Ghosts}
use Rattle.bz_arena.proofs.Crossing.{Claim-sync}
use Rattle.bz_arena.specs.contracts.block.Claim.{the_row}

pub sync : (R A : RattleType) (g : Ghosts A.Denot) → IsSync A → IsSync (the_row R A g)
sync = Claim-sync
