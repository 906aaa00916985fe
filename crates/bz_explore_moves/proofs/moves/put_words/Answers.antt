use Rattle.std.proofs.Common.{arith}
use Rattle.bz_explore_moves.specs.Moves.{IsWordLine}
use Rattle.bz_view.proofs.Lines.{turn_all, turn_more, turn_none}
use Rattle.bz_explore_moves.proofs.moves.put_words.Goals as goal

pub loop-word-init : goal.loop-word-init
loop-word-init c = turn_none (IsWordLine c.args.net.now.wiring) c.args.words.now _

pub loop-word-preserved : goal.loop-word-preserved
loop-word-preserved c = turn_more (IsWordLine c.args.net.now.wiring) c.args.words.now c.loop-word.word-index _ _ _ _ (omega arith) c.loop-word.invariant c.put_word.ensures

pub returns : goal.returns
returns c = turn_all (IsWordLine c.args.net.now.wiring) c.args.words.now c.loop-word.word-index _ _ (omega arith) c.loop-word.invariant
