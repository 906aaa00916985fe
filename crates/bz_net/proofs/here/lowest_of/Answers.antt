use Rattle.std.proofs.Common.{◌≡◌, ◌+◌, ◌*◌, ℕ, subst, arith}
use Rattle.std.specs.Int.{trailing_zeros, w64}
use Rattle.bz_net.specs.Told.{GoesFirst}
use Rattle.bz_net.proofs.Telling.{word_passes, word_hits}
use Rattle.bz_net.proofs.here.lowest_of.Goals as goal

pub returns-then-word-ne0-clause-lowest : goal.returns-then-word-ne0-clause-lowest
returns-then-word-ne0-clause-lowest c =
    let t = trailing_zeros w64 c.ready_word-word.result in let e : 64 * 0 + t ≡ t = omega arith in
    subst (λ (p : ℕ). GoesFirst c.args.node.now.comp c.args.node.now.here p) e
    (word_hits c.args.node.now.comp c.args.node.now.here 0 c.ready_word-word.result c.word.result c.ready_word-word.type_inv c.ready_word-word.ensures.ready c.word.ensures (omega (arith, c.if-word-ne0.true)) (λ q lt. absurd (omega (arith, lt))) c.ready_word-word.ensures.held)

pub lowest_far-requires-clause-near : goal.lowest_far-requires-clause-near
lowest_far-requires-clause-near c q lt =
    word_passes c.args.node.now.comp c.args.node.now.here 0 c.ready_word-word.result c.word.result c.ready_word-word.type_inv c.ready_word-word.ensures.ready c.word.ensures c.if-word-ne0.false (λ r low. absurd (omega (arith, low))) q (omega (arith, lt))

pub returns-then-word_count-eq1-clause-lowest : goal.returns-then-word_count-eq1-clause-lowest
returns-then-word_count-eq1-clause-lowest c p le can =
    word_passes c.args.node.now.comp c.args.node.now.here 0 c.ready_word-word.result c.word.result c.ready_word-word.type_inv c.ready_word-word.ensures.ready c.word.ensures c.if-word-ne0.false (λ r low. absurd (omega (arith, low))) p (let r = c.requires.room in let n = c.word_count.ensures in let one = c.if-word_count-eq1.true in omega (arith, le, r, n, one)) can
