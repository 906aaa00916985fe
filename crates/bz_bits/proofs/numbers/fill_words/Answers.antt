use Rattle.std.proofs.Common.{◌+◌, ◌-◌, ◌/◌, ◌∷◌, ap, ◌∙◌, arith}
use borrow.Rule.Slice.PartMut.{put_mid}
use Rattle.bz_bits.specs.declared.word.PortWord.{PortWord}
use Rattle.bz_bits.specs.PortWords.{FilledIn}
use Rattle.bz_bits.proofs.Words.{whole_filled, whole_even, filled_on, filled_all}
use Rattle.bz_bits.proofs.numbers.fill_words.Goals as goal

pub returns-then-end-to-clause-filled : goal.returns-then-end-to-clause-filled
returns-then-end-to-clause-filled c =
    let from = c.args.from in let to = c.args.to in let start = from / 64 in let end = to / 64 in let s = c.args.number in let some = c.if-start-end.true in
    let old = c.args.first.now ∷ c.args.more.now in let f = c.fill_word.new.first in let more = c.fill_word.new.more in
    let mid = f ∷ put_mid start (end - 1 - start) more c.fill.new.self in let new = c.fill_word-then-end-to.new.first ∷ c.fill_word-then-end-to.new.more in
    let inner : FilledIn (f ∷ more) mid from to s (start + 1) end =
    whole_filled f c.whole_word.result more c.fill.new.self from to s start end (omega (arith, some)) (omega (arith, c.requires.fits, c.fill_word.auto.more)) (omega arith) (omega arith)
    (c.fill.ensures.after (λ y e. e)) c.whole_word.ensures.each in
    filled_all old new from to s start (end + 1) (omega arith) (omega arith)
    (filled_on old mid new from to s start end (end + 1) (omega (arith, some)) (omega arith)
    (filled_on old (f ∷ more) mid from to s start (start + 1) end (omega arith) (omega (arith, some)) c.fill_word.ensures.filled inner) c.fill_word-then-end-to.ensures.filled)

pub returns-else-end-to-clause-filled : goal.returns-else-end-to-clause-filled
returns-else-end-to-clause-filled c =
    let from = c.args.from in let to = c.args.to in let start = from / 64 in let end = to / 64 in let s = c.args.number in let some = c.if-start-end.true in
    let old = c.args.first.now ∷ c.args.more.now in let f = c.fill_word.new.first in let more = c.fill_word.new.more in
    let new = f ∷ put_mid start (end - 1 - start) more c.fill.new.self in
    let inner : FilledIn (f ∷ more) new from to s (start + 1) end =
    whole_filled f c.whole_word.result more c.fill.new.self from to s start end (omega (arith, some)) (omega (arith, c.requires.fits, c.fill_word.auto.more)) (omega arith) (omega arith)
    (c.fill.ensures.after (λ y e. e)) c.whole_word.ensures.each in
    filled_all old new from to s start end (omega arith) (omega (arith, c.if-end-to.false))
    (filled_on old (f ∷ more) new from to s start (start + 1) end (omega arith) (omega (arith, some)) c.fill_word.ensures.filled inner)

pub returns-then-end-to-clause-even : goal.returns-then-end-to-clause-even
returns-then-end-to-clause-even c even k le lt =
    let start = c.args.from / 64 in let end = c.args.to / 64 in let f = c.fill_word.new.first in let more = c.fill_word.new.more in let some = c.if-start-end.true in
    ap (λ (w : PortWord). w.due) (c.fill_word-then-end-to.ensures.others k (λ e. omega (arith, e, lt)))
    ∙ whole_even f c.whole_word.result more c.fill.new.self start end (omega (arith, some)) (omega (arith, c.requires.fits, c.fill_word.auto.more)) (c.fill.ensures.after (λ y e. e)) (c.whole_word.ensures.even even) k le lt

pub returns-else-end-to-clause-even : goal.returns-else-end-to-clause-even
returns-else-end-to-clause-even c even k le lt =
    let start = c.args.from / 64 in let end = c.args.to / 64 in let f = c.fill_word.new.first in let more = c.fill_word.new.more in let some = c.if-start-end.true in
    whole_even f c.whole_word.result more c.fill.new.self start end (omega (arith, some)) (omega (arith, c.requires.fits, c.fill_word.auto.more)) (c.fill.ensures.after (λ y e. e)) (c.whole_word.ensures.even even) k le lt
