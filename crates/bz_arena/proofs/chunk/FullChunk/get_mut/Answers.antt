use Rattle.std.proofs.Common.{◌≡◌, length, refl, ap, set}
use Rattle.std.proofs.Math.Nat.{ℕ_set}
use Rattle.bz_arena.specs.Lends.{with_node}
use Rattle.bz_arena.proofs.chunk.FullChunk.get_mut.Goals as goal

pub returns : goal.returns
returns g c = (
  (
    refl,
    λ w.
        let xs = set c.args.self.now.chunk c.args.index w in
        ap (λ (p : length xs ≡ 256). record { chunk = xs; whole = p }) (ℕ_set (length xs) 256 _ (with_node c.args.self.now c.args.index w).whole),
  ),
  record { writes_back = tt; value = c.get_mut.ensures.value },
)
