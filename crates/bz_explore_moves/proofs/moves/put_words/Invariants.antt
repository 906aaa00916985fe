use Rattle.std.proofs.Common.{take}
use Rattle.bz_text.specs.Growing.{GrowsBy}
use Rattle.bz_view.specs.Lines.{InTurn}
use Rattle.bz_explore_moves.specs.Moves.{IsWordLine}
use Rattle.bz_explore_moves.proofs.moves.put_words.Given as goal

abbrev pub invariant-loop-word : goal.invariant-loop-word
invariant-loop-word l = GrowsBy (InTurn (IsWordLine l.net.wiring) (take l.word-index l.words)) l.initial.text l.text
