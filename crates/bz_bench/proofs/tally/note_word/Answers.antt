use Rattle.std.proofs.Common.{◌++◌, ◌-◌, ◌∙◌, inl, inr, sym, ap, if◌then◌else◌, [], arith}
use Rattle.bz_bench.specs.Streams.{begins, ends}
use Rattle.bz_bench.proofs.Telling.{told_more, told_outside}
use Rattle.bz_bench.proofs.tally.note_word.Goals as goal

pub returns-then-place-eq0-clause-told : goal.returns-then-place-eq0-clause-told
returns-then-place-eq0-clause-told c = λ who es told.
    told_outside es c.args.tallies.now.items who c.args.verb c.args.port c.args.value c.args.reply (inl (let z = c.if-place-eq0.true in omega (arith, z))) told

pub returns-then-place-len-clause-told : goal.returns-then-place-len-clause-told
returns-then-place-len-clause-told c = λ who es told.
    told_outside es c.args.tallies.now.items who c.args.verb c.args.port c.args.value c.args.reply (inr (let z = c.if-place-len.true in omega (arith, z))) told

pub returns-in_ok-note-in-Some-clause-told : goal.returns-in_ok-note-in-Some-clause-told
returns-in_ok-note-in-Some-clause-told c = λ who es told.
    let came = rw c.in-Some.is at c.carried.ensures in
    let old = c.index_mut.result.now in
    let some = c.if-place-eq0.false in
    let within = c.if-place-len.false in
    told_more es c.args.tallies.now.items who c.args.verb c.args.port (c.args.port - 1) c.args.value c.args.reply old c.note.new.self
    (omega (arith, some)) (omega (arith, some, within)) c.index_mut.ensures.value
    (c.in_ok-note-in-Some.ensures.begun ∙ ap (λ xs. old.begun.items ++ (if begins c.args.verb then xs else [])) (sym came))
    (c.in_ok-note-in-Some.ensures.ended ∙ ap (λ xs. old.ended.items ++ (if ends c.args.verb then xs else [])) (sym came))
    told
