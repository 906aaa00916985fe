use Rattle.std.proofs.Common.{refl, arith}
use Rattle.bz_arena.proofs.Pairs.{set_both, set_both_swapped, read_front, read_back}
use Rattle.bz_arena.proofs.pair.pair_of.Goals as goal

pub returns-then-a-b : goal.returns-then-a-b
returns-then-a-b g c =
    let e = c.split_at_mut-front.ensures in (
      ((refl, refl), λ x y. set_both _ _ _ e.value _ _ x y e.front_len c.if-a-b.true),
      record {
        writes_back = tt;
        first = read_front _ _ _ e.value _ _ (omega (arith, e.front_len, c.if-a-b.true)) c.index-front-a.is;
        second = read_back _ _ _ e.value _ _ e.front_len c.index-back-0.is;
      },
    )

pub returns-else-a-b : goal.returns-else-a-b
returns-else-a-b g c =
    let e = c.split_at_mut-front-else-a-b.ensures in (
      ((refl, refl), λ x y. set_both_swapped _ _ _ e.value _ _ x y e.front_len (omega arith)),
      record {
        writes_back = tt;
        first = read_back _ _ _ e.value _ _ e.front_len c.index-back-0-else-a-b.is;
        second = read_front _ _ _ e.value _ _ (omega (arith, e.front_len)) c.index-front-b.is;
      },
    )
