use Rattle.std.proofs.Common.{take}
use Rattle.std.specs.List.{flat_map}
use Rattle.bz_text.specs.Growing.{Grows}
use Rattle.bz_explore_moves.specs.Passing.{came_text}
use Rattle.bz_explore_moves.proofs.passed.put_all.Given as goal

abbrev pub invariant-loop-came : goal.invariant-loop-came
invariant-loop-came l = Grows l.initial.text l.text (flat_map came_text (take l.came-index l.passed))
