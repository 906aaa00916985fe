use Rattle.std.proofs.Common.{◌≡◌, ◌++◌, [], ◌∷◌, ap, refl, ◌∙◌}
use Rattle.bz_explore_net.specs.Stepping.{Played}
use Rattle.bz_explore_net.proofs.stepping.Stepping.fire.Goals as goal
use Rattle.bz_explore_net.proofs.stepping.Stepping.fire.Goals.{in-None+in_ok-fire-in-None, in-Some+in_ok-fire_move-in-Some}

pub returns-clause-marked : goal.returns-clause-marked
returns-clause-marked c =
    let mark = c.in-Ok-Ok.mark in
    let kept : c.match-port.self-inside.marks.items ≡ c.reserve.new.self.items = elim c.match-port.branch [
      | in-None+in_ok-fire-in-None w ↦ rw w.self-inside-is refl
      | in-Some+in_ok-fire_move-in-Some w ↦ rw w.self-inside-is refl
    ] in (
      mark,
      c.in-Ok-Ok.ensures,
      rw (c.push.ensures.items, c.unwrap.ensures) (ap (λ xs. xs ++ mark ∷ []) (kept ∙ c.reserve.ensures.items) ∙ ap (λ (v : Played). v.marks ++ mark ∷ []) c.self.view_is),
    )
