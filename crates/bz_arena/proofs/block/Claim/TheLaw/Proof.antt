-- A `&` to a claim shows its fields, and gives no right. Assumes `Logic`.
use denote.Param.Laws.{Laws, row_shared}
use denote.Param.Shared.{copy_shared}
use denote.RattleType.{RattleType}
use denote.SharingLaws.{nothing_shr_laws}
use denote.Struct.Field.{RawPtr-field}
use denote.Struct.Laws.{RawPtr-copy}
use denote.Struct.Lending.{of_Lends, Lends-nothing}
use Rattle.core.specs.declared.alloc.Allocator.{Ghosts}
use Rattle.bz_arena.specs.contracts.block.Claim as C
use Rattle.bz_arena.proofs.block.Claim.TheLaw.Statement.{statement}

pub shares : (R A : RattleType) (g : Ghosts A.Denot) (L : Laws R) (LA : Laws A) → statement R A g L LA
shares R A g L LA = of_Lends (C.struct R A g) (C.the_codes R.Denot A.Denot R.coded A.coded) (C.the_heap R A g) (C.the_lent R A g) (λ d p. nothing_shr_laws)
    (copy_shared RawPtr-field RawPtr-copy, (row_shared A LA, tt)) (λ M 𝓤 𝓛 d p. Lends-nothing 𝓛 (C.the_heap R A g d) (C.the_row R A g).lives)
