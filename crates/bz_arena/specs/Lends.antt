-- What a chunk, the full chunks and an arena end as, once a `&mut` into them has ended.
use Rattle.std.specs.Prelude.{ℕ, List, length, slice_set}
use Rattle.std.specs.Borrow.{Fml, RattleType, MutBor, Array, Lends}
use Rattle.std.specs.List.{refill}
use mathlib.Core.Path.{◌∙◌}
use lib.ListN.{length-set}
use Rattle.std.specs.declared.alloc.Allocator.{Ghosts}
use Rattle.bz_arena.specs.declared.block.Nodes.{Nodes}
use Rattle.bz_arena.specs.declared.chunk.FullChunk.{FullChunk}
use Rattle.bz_arena.specs.contracts.block.Nodes.{the_row as nodes_row}
use Rattle.bz_arena.specs.contracts.chunk.Chunk.{the_row as chunk_row}
use Rattle.bz_arena.specs.contracts.chunk.FullChunk.{the_row as full_chunk_row}
use Rattle.bz_arena.specs.contracts.full.FullChunks.{the_row as full_row}
use Rattle.bz_arena.specs.contracts.arena.Arena.{the_row as arena_row}

-- the nodes with these items, as many as there were
abbrev pub with_items : {X : Type 0} → Nodes X → List X → Nodes X
with_items n xs = record { start = n.start; places = n.places; items = refill (length n.items) n.items xs }

abbrev pub with_item : {X : Type 0} → Nodes X → ℕ → X → Nodes X
with_item n i x = record { start = n.start; places = n.places; items = slice_set n.items i x }

abbrev pub lends_item : (R : RattleType) → MutBor (Nodes R.Denot) → ℕ → MutBor R.Denot → Fml
lends_item R n i r = Lends (nodes_row R) R n r (with_item n.now i)

abbrev pub lends_items : (R : RattleType) → MutBor (Nodes R.Denot) → MutBor (List R.Denot) → Fml
lends_items R n r = Lends (nodes_row R) (Array R 0) n r (with_items n.now)

abbrev pub lends_in_chunk : (R A : RattleType) (g : Ghosts A.Denot) → MutBor (List R.Denot) → ℕ → MutBor R.Denot → Fml
lends_in_chunk R A g c i r = Lends (chunk_row R A g) R c r (slice_set c.now i)

abbrev pub lends_nodes : (R A : RattleType) (g : Ghosts A.Denot) → MutBor (List R.Denot) → MutBor (List R.Denot) → Fml
lends_nodes R A g c r = Lends (chunk_row R A g) (Array R 0) c r (refill (length c.now) c.now)

abbrev pub with_node : {X A : Type 0} → FullChunk X A → ℕ → X → FullChunk X A
with_node c i w = record { chunk = slice_set c.chunk i w; whole = length-set c.chunk i w ∙ c.whole }

abbrev pub lends_in_full : (R A : RattleType) (g : Ghosts A.Denot) → MutBor (FullChunk R.Denot A.Denot) → ℕ → MutBor R.Denot → Fml
lends_in_full R A g c i r = Lends (full_chunk_row R A g) R c r (with_node c.now i)

abbrev pub lends_among : (R A : RattleType) (g : Ghosts A.Denot) → MutBor (List R.Denot) → ℕ → MutBor R.Denot → Fml
lends_among R A g c i r = Lends (full_row R A g) R c r (slice_set c.now i)

-- once the borrow r ends, the node at i has the last value written through r
abbrev pub lends_node : (R A : RattleType) (g : Ghosts A.Denot) → MutBor (List R.Denot) → ℕ → MutBor R.Denot → Fml
lends_node R A g c i r = Lends (arena_row R A g) R c r (slice_set c.now i)
