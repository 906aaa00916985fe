use Rattle.std.proofs.Common.{arith}
use Rattle.bz_net.proofs.Telling.{word_passes, words_pass, word_hits}
use Rattle.bz_net.proofs.here.lowest_far.Goals as goal

pub returns-then-at-word_count : goal.returns-then-at-word_count
returns-then-at-word_count c p le can =
    words_pass c.args.node.now.comp c.args.node.now.here 1 c.next_due-at.result c.next_due-at.ensures.passed (λ q lt. c.requires.near q (omega (arith, lt))) p
    (let r = c.requires.room in let e = c.if-at-word_count.true in let n = c.word_count.ensures in omega (arith, le, r, e, n)) can

pub returns-then-word-ne0 : goal.returns-then-word-ne0
returns-then-word-ne0 c =
    let at = c.next_due-at.result in
    word_hits c.args.node.now.comp c.args.node.now.here at c.far_word-word.result c.word.result c.far_word-word.type_inv c.far_word-word.ensures.ready c.word.ensures (omega (arith, c.if-word-ne0.true))
    (words_pass c.args.node.now.comp c.args.node.now.here 1 at c.next_due-at.ensures.passed (λ q lt. c.requires.near q (omega (arith, lt)))) c.far_word-word.ensures.held

pub lowest_from-requires-clause-before : goal.lowest_from-requires-clause-before
lowest_from-requires-clause-before c =
    let at = c.next_due-at.result in
    word_passes c.args.node.now.comp c.args.node.now.here at c.far_word-word.result c.word.result c.far_word-word.type_inv c.far_word-word.ensures.ready c.word.ensures c.if-word-ne0.false
    (words_pass c.args.node.now.comp c.args.node.now.here 1 at c.next_due-at.ensures.passed (λ q lt. c.requires.near q (omega (arith, lt))))
