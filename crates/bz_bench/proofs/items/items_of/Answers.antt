use Rattle.std.proofs.Common.{Some, None, [], append-nil, inl, refl, sym, arith}
use Rattle.std.proofs.lemmas.Str.Pattern.{split_parts}
use Rattle.bz_bench.proofs.Spelling.{anyway, no_item, no_item_before, no_times_behind}
use Rattle.bz_bench.proofs.items.items_of.Goals as goal

pub returns-in_err-item-in-None-clause-none : goal.returns-in_err-item-in-None-clause-none
returns-in_err-item-in-None-clause-none c =
    let front = split_parts 42 c.args.word.now None c.in-None.ensures.cases (omega arith) in
    anyway c.from_residual.result _ (no_item c.args.word.now c.requires.begun c.requires.file front c.in_err-item-in-None.ensures.none)

pub returns-in_err-item-in-Some-clause-none : goal.returns-in_err-item-in-Some-clause-none
returns-in_err-item-in-Some-clause-none c =
    let parts = split_parts 42 c.args.word.now (Some (c.in-Some.spelt, c.in-Some.digits)) c.in-Some.ensures.cases (omega arith) in
    anyway c.from_residual-in_err-item-in-Some.result _ (no_item_before c.args.word.now c.requires.begun c.requires.file c.in-Some.spelt.now c.in-Some.digits.now parts.0 parts.1 c.in_err-item-in-Some.ensures.none)

pub returns-in_err-times-in-Some-clause-none : goal.returns-in_err-times-in-Some-clause-none
returns-in_err-times-in-Some-clause-none c =
    let parts = split_parts 42 c.args.word.now (Some (c.in-Some.spelt, c.in-Some.digits)) c.in-Some.ensures.cases (omega arith) in
    anyway c.from_residual-in_err-times-in-Some.result _ (no_times_behind c.args.word.now c.requires.begun c.requires.file c.in-Some.spelt.now c.in-Some.digits.now parts.0 parts.1 c.in_err-times-in-Some.ensures.none)

pub returns-in_ok-item-in-None-clause-some : goal.returns-in_ok-item-in-None-clause-some
returns-in_ok-item-in-None-clause-some c =
    (c.args.word.now, [], sym (append-nil c.args.word.now), c.in_ok-item-in-None.ensures.some, inl (refl, refl))

pub returns-in_ok-times-in-Some-clause-some : goal.returns-in_ok-times-in-Some-clause-some
returns-in_ok-times-in-Some-clause-some c =
    let parts = split_parts 42 c.args.word.now (Some (c.in-Some.spelt, c.in-Some.digits)) c.in-Some.ensures.cases (omega arith) in
    (c.in-Some.spelt.now, _, parts.0, c.in_ok-item-in-Some.ensures.some, c.in_ok-times-in-Some.ensures.some)
