use Rattle.std.proofs.Common.{◌++◌, [], ◌∷◌, ap, ◌∙◌}
use Rattle.bz_explore_net.specs.Stepping.{Played}
use Rattle.bz_explore_net.proofs.stepping.Stepping.begin.Goals as goal

pub returns-clause-marked : goal.returns-clause-marked
returns-clause-marked c =
    let mark = c.in_ok-begun.begun in (
      mark,
      c.in_ok-begun.ensures,
      rw (c.push.ensures.items, c.unwrap.ensures) (ap (λ xs. xs ++ mark ∷ []) c.reserve.ensures.items ∙ ap (λ (v : Played). v.marks ++ mark ∷ []) c.self.view_is),
    )
