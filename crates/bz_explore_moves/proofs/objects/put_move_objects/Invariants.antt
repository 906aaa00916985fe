use Rattle.std.proofs.Common.{take}
use Rattle.bz_text.specs.Growing.{Grows}
use Rattle.bz_explore_moves.proofs.Listed.{all_behind}
use Rattle.bz_explore_moves.specs.Objects.{move_object}
use Rattle.bz_explore_moves.proofs.objects.put_move_objects.Given as goal

abbrev pub invariant-loop-offer : goal.invariant-loop-offer
invariant-loop-offer l = Grows l.initial.text l.text (all_behind (move_object l.net.wiring.sites) (take l.offer-index l.rest))
