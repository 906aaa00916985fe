-- A `&` to the nodes reaches each of them. Assumes `Logic`.
use mathlib.Core.List.{List, [], ◌++◌}
use mathlib.Core.Path.{sym, subst}
use Prim.Native.Nat.{ℕ, ◌-◌, ◌*◌, ◌^◌}
use lib.ListN.{length}
use seplogic.Ra.Ura.{Ura}
use base.Fraction.{full_share}
use base.Fml.{Lft, Incl, Incl-trans, flt}
use types.Logic.{Logic}
use contract.BorrowLft.{meet_⊑_left}
use denote.Array.{Array, Array-row_laws}
use denote.ArrayMemory.{Single}
use denote.Param.Laws.{Laws}
use denote.Param.Shared.{copy_shared}
use denote.RattleType.{RattleType}
use denote.RawPtr.{Ptr, block_ptr, null_ptr, lies_at, room_for, in_block, ◌+ₚ◌}
use denote.Shares.{Shares-less, Shares-Array}
use denote.Sharing.{said}
use denote.SharingLaws.{beside_shr_laws, said_shr_laws}
use denote.Struct.Field.{RawPtr-field}
use denote.Struct.Laws.{RawPtr-copy}
use denote.Struct.Lending.{lent_at, lent_at_shr_laws, Lends, Lends-false, Lends-lies, Lends-said, Lends-first, Lends-both, of_Lends}
use Rattle.std.specs.Mem.{type_size}
use Rattle.bz_arena.specs.Nodes.{places_for, places_own}
use Rattle.bz_arena.proofs.block.Nodes.TheLaw.Statement.{statement}
use Rattle.bz_arena.specs.contracts.block.Nodes as C

module _ {M : Type 1} {𝓤 : Ura M} (𝓛 : Logic 𝓤) (R : RattleType) (L : Laws R) (l : Lft) (inc : Incl l R.lives) (n : ℕ) (xs : List R.Denot) where
  Lends-nodes : (p : Ptr) → Lends 𝓛 (in_block p (places_own R p n xs)) (lent_at (Array R (length xs)) p xs) l
  Lends-nodes null_ptr = Lends-false 𝓛 (lent_at (Array R (length xs)) null_ptr xs) l
  Lends-nodes (block_ptr b o) =
      let p : Ptr = block_ptr b o in
      Lends-first 𝓛 (lies_at (Array R (length xs)) full_share p xs) (room_for (places_for R (n - length xs)) (p +ₚ length xs * type_size R)) (lent_at (Array R (length xs)) p xs) l
      (Lends-lies 𝓛 (Array R (length xs)) l p xs (Shares-Array 𝓛 R (subst Single (sym L.one) tt) (length xs) l (Shares-less 𝓛 R R.lives l inc (L.shares 𝓛)) xs))

pub shares : (R : RattleType) (L : Laws R) → statement R L
shares R L = of_Lends (C.struct R) (C.the_codes R.Denot R.coded) (C.the_heap R) (C.the_lent R)
    (λ d p. let small = flt (d.places * type_size R) (2 ^ 63) in let run = lent_at (Array R (length d.items)) d.start d.items in
    beside_shr_laws (said small) run (said_shr_laws small tt) (lent_at_shr_laws (Array R (length d.items)) (Array-row_laws R L.shr_laws (length d.items)) d.start d.items))
    (copy_shared RawPtr-field RawPtr-copy, tt)
    (λ M 𝓤 𝓛 d p.
    let l = (C.the_row R).lives in let small = flt (d.places * type_size R) (2 ^ 63) in
    Lends-both 𝓛 small _ (said small) (lent_at (Array R (length d.items)) d.start d.items) l (Lends-said 𝓛 small tt l)
    (Lends-nodes 𝓛 R L l (Incl-trans (meet_⊑_left (R.lives ++ []) _) (meet_⊑_left R.lives [])) d.places d.items d.start))
