-- Which claim goes with which nodes.
use Rattle.std.specs.Prelude.{◌≡◌, Option, Some, None}
use Rattle.bz_arena.specs.declared.block.Nodes.{Nodes}
use Rattle.bz_arena.specs.declared.block.Claim.{Claim}

-- a claim is for the nodes' block of 256 places; where there is none, there is no place
abbrev pub IsClaimOf : {X A : Type 0} → Option (Claim X A) → Nodes X → Type 0
IsClaimOf (Some c) n = (n.places ≡ 256) × (c.start ≡ n.start)
IsClaimOf None n = n.places ≡ 0
