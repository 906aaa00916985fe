-- The nodes of full chunks.
use Rattle.std.specs.Prelude.{List, [], ◌∷◌, ◌++◌}
use Rattle.bz_arena.specs.declared.chunk.FullChunk.{FullChunk}

abbrev pub joined : {X A : Type 0} → List (FullChunk X A) → List X
joined [] = []
joined (f ∷ fs) = f.chunk ++ joined fs
