use Rattle.std.proofs.Common.{[], ◌++◌, refl, sym, ap, ◌∙◌, append_assoc, arith}
use Rattle.bz_complete.proofs.Spelling.{spells_all, spells_more}
use Rattle.bz_complete.proofs.reading.read_short.Goals as goal

pub loop-before-init : goal.loop-before-init
loop-before-init c = ([], refl, rw c.new-moves.ensures.items refl, rw c.new-moves.ensures.items refl)

pub loop-before-preserved : goal.loop-before-preserved
loop-before-preserved c =
    let (front, cut, spelt, many) = c.loop-before.invariant in
    let (line, is, more) = spells_more c.args.names.now front c.loop-before.rest.now c.in-Some.after.now _ _ spelt c.in-Some.ensures in
    (front ++ line, cut ∙ ap (λ s. front ++ s) is ∙ sym (append_assoc front line _), rw c.in-Ok.ensures.items more, let len = c.in-Ok.ensures.len in omega (arith, len, many))

pub returns-then-is_empty : goal.returns-then-is_empty
returns-then-is_empty c =
    let (front, cut, spelt, many) = c.loop-before.invariant in let none = c.is_empty.ensures in let is = c.if-is_empty.true in
    record { ok = spells_all c.args.names.now front c.args.text.now c.loop-before.rest.now _ spelt cut (grind (arith, none, is)); err = tt }

pub returns-then-is_empty-2 : goal.returns-then-is_empty-2
returns-then-is_empty-2 c =
    let (front, cut, spelt, many) = c.loop-before.invariant in let none = c.is_empty-2.ensures in let is = c.if-is_empty-2.true in
    record { ok = spells_all c.args.names.now front c.args.text.now c.loop-before.rest.now _ spelt cut (grind (arith, none, is)); err = tt }
