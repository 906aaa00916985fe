-- Nodes may cross threads where a node may, and a claim where its allocator may.
use mathlib.Core.List.{List}
use Prim.Native.Nat.{ℕ}
use lib.ListN.{length}
use base.Fraction.{full_share}
use base.Shift.{Keyless}
use denote.Array.{Array}
use denote.RattleType.{RattleType}
use denote.RawPtr.{Ptr, block_ptr, null_ptr}
use denote.Struct.Owning.{shape, fields, to}
use denote.Struct.Struct.{exits_of}
use denote.Param.Send.{IsSend, IsSync, AllSend, part_keyless, owning_send, struct_send, struct_sync, array_send, array_sync, sendable}
use Rattle.core.specs.declared.alloc.Allocator.{Ghosts}
use Rattle.std_alloc.proofs.SendSync.{FreesAnywhere, quiet, seen}
use Rattle.bz_arena.specs.Nodes.{nodes_own}
use Rattle.bz_arena.specs.contracts.block.Nodes as Nodes
use Rattle.bz_arena.specs.contracts.block.Claim as Claim

module _ (R : RattleType) where
  keyless : IsSend R → (p : Ptr) (n : ℕ) (xs : List R.Denot) → Keyless (nodes_own R p n xs)
  keyless s (block_ptr b o) n xs = (tt, (part_keyless (Array R (length xs)) (array_send R (length xs) s) full_share xs b o, tt))
  keyless s null_ptr n xs = (tt, tt)

  pub Nodes-send : IsSend R → IsSend (Nodes.the_row R)
  Nodes-send s = let O = Nodes.the_type R in let all : AllSend (fields O) = (search sendable, tt) in
      owning_send O all (λ d. keyless s d.start d.places d.items) (λ k. quiet (to O) (exits_of k (fields O)) ((struct_send (shape O) all).leaving k))

  pub Nodes-sync : IsSync R → IsSync (Nodes.the_row R)
  Nodes-sync y = let O = Nodes.the_type R in record {
    shared = λ d b o κ. ((struct_sync (shape O) (search sendable, tt)).shared (to O d) b o κ, (tt, seen (Array R (length d.items)) (array_sync R (length d.items) y) d.start d.items κ));
  }

  module _ (A : RattleType) (g : Ghosts A.Denot) where
    pub Claim-send : IsSend A → FreesAnywhere A.Denot g → IsSend (Claim.the_row R A g)
    Claim-send s f = let O = Claim.the_type R A g in let all : AllSend (fields O) = (search sendable, (s, tt)) in
        owning_send O all (λ d. f.frees d.alloc _ d.start) (λ k. quiet (to O) (exits_of k (fields O)) ((struct_send (shape O) all).leaving k))

    pub Claim-sync : IsSync A → IsSync (Claim.the_row R A g)
    Claim-sync y = let O = Claim.the_type R A g in record { shared = λ d b o κ. ((struct_sync (shape O) (search sendable, (y, tt))).shared (to O d) b o κ, tt) }
