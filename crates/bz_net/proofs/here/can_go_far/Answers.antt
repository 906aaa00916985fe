use Rattle.std.proofs.Common.{◌<◌, ◌+◌, ◌*◌, ◌/◌, ℕ, subst, sym, arith}
use Rattle.bz_kinds.specs.Ready.{CanGo}
use Rattle.bz_net.specs.Told.{flag_of}
use Rattle.bz_net.proofs.Telling.{is_one, word_goes, word_passes, words_pass}
use Rattle.bz_net.proofs.here.can_go_far.Goals as goal

pub returns-then-word-ne0 : goal.returns-then-word-ne0
returns-then-word-ne0 c =
    word_goes c.args.node.now.comp c.args.node.now.here (c.args.port / 64) c.far_word-word.result c.word.result c.far_word-word.type_inv c.far_word-word.ensures.ready c.word.ensures (omega (arith, c.if-word-ne0.true)) c.far_word-word.ensures.held

pub lowest_from-requires-clause-before : goal.lowest_from-requires-clause-before
lowest_from-requires-clause-before c =
    let at = c.args.port / 64 in
    subst (λ (n : ℕ). (q : ℕ) → q < 64 * (n + 1) → CanGo c.args.node.now.comp.proc q (flag_of c.args.node.now.here q) → ⊥) (sym c.if-next-at.true)
    (word_passes c.args.node.now.comp c.args.node.now.here at c.far_word-word.result c.word.result c.far_word-word.type_inv c.far_word-word.ensures.ready c.word.ensures c.if-word-ne0.false
    (subst (λ (n : ℕ). (q : ℕ) → q < 64 * n → CanGo c.args.node.now.comp.proc q (flag_of c.args.node.now.here q) → ⊥) c.if-next-at.true
    (words_pass c.args.node.now.comp c.args.node.now.here 1 c.next_due-next.result c.next_due-next.ensures.passed (λ q lt. c.requires.near q (omega (arith, lt))))))

pub returns-then-next-at : goal.returns-then-next-at
returns-then-next-at c = rw c.is_some.ensures (is_one c.args.node.now.comp c.args.node.now.here c.lowest_from.result c.lowest_from.ensures)

pub returns : goal.returns
returns c = rw c.is_some-2.ensures (is_one c.args.node.now.comp c.args.node.now.here c.lowest_far.result c.lowest_far.ensures)
