use Rattle.std.proofs.Common.{◌+◌, arith}
use Rattle.bz_net.proofs.Telling.{word_passes, pass_on, word_hits}
use Rattle.bz_net.proofs.here.lowest_from.Goals as goal

pub loop-at-init : goal.loop-at-init
loop-at-init c = (omega (arith, c.next_word-at.ensures.from, c.requires.far), pass_on c.args.node.now.comp c.args.node.now.here c.args.from c.next_word-at.result c.next_word-at.ensures.passed c.requires.before)

pub returns-then-word-ne0 : goal.returns-then-word-ne0
returns-then-word-ne0 c =
    word_hits c.args.node.now.comp c.args.node.now.here c.loop-at.at c.far_word-word.result c.word.result c.far_word-word.type_inv c.far_word-word.ensures.ready c.word.ensures (omega (arith, c.if-word-ne0.true)) c.loop-at.invariant.1 c.far_word-word.ensures.held

pub loop-at-preserved : goal.loop-at-preserved
loop-at-preserved c = (
  omega (arith, c.next_word-at-in-loop-at.ensures.from),
  pass_on c.args.node.now.comp c.args.node.now.here (c.loop-at.at + 1) c.next_word-at-in-loop-at.result c.next_word-at-in-loop-at.ensures.passed
      (word_passes c.args.node.now.comp c.args.node.now.here c.loop-at.at c.far_word-word.result c.word.result c.far_word-word.type_inv c.far_word-word.ensures.ready c.word.ensures c.if-word-ne0.false c.loop-at.invariant.1),
)

pub returns : goal.returns
returns c p le can = c.loop-at.invariant.1 p (let r = c.requires.room in let e = c.loop-at-test.false in let n = c.word_count-end.ensures in omega (arith, le, r, e, n)) can
