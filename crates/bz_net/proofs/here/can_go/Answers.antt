use Rattle.std.proofs.Common.{arith}
use Rattle.bz_net.proofs.Telling.{word_goes, word_passes}
use Rattle.bz_net.proofs.here.can_go.Goals as goal

pub returns-then-ready_word-ne0-clause-goes : goal.returns-then-ready_word-ne0-clause-goes
returns-then-ready_word-ne0-clause-goes c =
    word_goes c.args.node.now.comp c.args.node.now.here 0 c.ready_word.result c.word.result c.ready_word.type_inv c.ready_word.ensures.ready c.word.ensures (omega (arith, c.if-ready_word-ne0.true)) c.ready_word.ensures.held

pub can_go_far-requires-clause-near : goal.can_go_far-requires-clause-near
can_go_far-requires-clause-near c q lt =
    word_passes c.args.node.now.comp c.args.node.now.here 0 c.ready_word.result c.word.result c.ready_word.type_inv c.ready_word.ensures.ready c.word.ensures c.if-ready_word-ne0.false (λ r low. absurd (omega (arith, low))) q (omega (arith, lt))

pub returns-clause-goes : goal.returns-clause-goes
returns-clause-goes c p le can =
    word_passes c.args.node.now.comp c.args.node.now.here 0 c.ready_word.result c.word.result c.ready_word.type_inv c.ready_word.ensures.ready c.word.ensures c.if-ready_word-ne0.false (λ r low. absurd (omega (arith, low))) p (let r = c.requires.room in let n = c.word_count.ensures in let one = c.if-word_count-ne1.false in omega (arith, le, r, n, one)) can
