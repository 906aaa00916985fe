use Rattle.std.proofs.Common.{◌∙◌, ◌++◌, ◌∷◌, [], refl, ap}
use Rattle.bz_explore_net.specs.declared.stepping.Mark.{Mark}
use Rattle.bz_explore_net.proofs.stepping.Stepping.behind.Goals as goal

pub returns-clause-marks : goal.returns-clause-marks
returns-clause-marks c =
    let mark : Mark = record { command = c.in_ok-from_slice.field-0; entries = 0; next = 1; picker = c.new-picker.result } in
    (mark, c.in_ok-push.ensures.items ∙ ap (λ ms. ms ++ mark ∷ []) c.new-marks.ensures.items, c.in_ok-from_slice.ensures.items, refl, refl)
