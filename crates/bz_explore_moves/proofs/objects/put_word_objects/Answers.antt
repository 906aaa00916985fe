use Rattle.std.proofs.Common.{arith}
use Rattle.bz_explore_moves.proofs.Listed.{listed_all, listed_more}
use Rattle.bz_explore_moves.specs.Objects.{word_object}
use Rattle.bz_explore_moves.proofs.objects.put_word_objects.Goals as goal

pub loop-word-preserved : goal.loop-word-preserved
loop-word-preserved c = listed_more (word_object c.args.net.now.wiring) _ c.loop-word.word-index _ _ _ _ _ c.loop-word.invariant c.put.ensures c.put_word_object-in-loop-word.ensures (omega arith)

pub returns-after-loop-word : goal.returns-after-loop-word
returns-after-loop-word c =
    listed_all (word_object c.args.net.now.wiring) c.args.words.now _ c.loop-word.word-index _ _ _ c.in-len1-up.len_at_least c.put_word_object.ensures c.loop-word.invariant c.loop-word-test.false
