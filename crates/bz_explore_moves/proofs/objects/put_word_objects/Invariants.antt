use Rattle.std.proofs.Common.{take}
use Rattle.bz_text.specs.Growing.{Grows}
use Rattle.bz_explore_moves.proofs.Listed.{all_behind}
use Rattle.bz_explore_moves.specs.Objects.{word_object}
use Rattle.bz_explore_moves.proofs.objects.put_word_objects.Given as goal

abbrev pub invariant-loop-word : goal.invariant-loop-word
invariant-loop-word l = Grows l.initial.text l.text (all_behind (word_object l.net.wiring) (take l.word-index l.rest))
