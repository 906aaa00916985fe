use Rattle.std.proofs.Common.{◌≡◌, [], drop, length, refl, sym, ap, ◌∙◌, arith, Some, add-one}
use Rattle.std.proofs.Math.ListN.{drop_of_length-le}
use Rattle.std.proofs.lemmas.List.{take_rest}
use Rattle.bz_trace_text.specs.Reading.{strip}
use Rattle.bz_trace_text.proofs.Strips.{strip_short, strip_same, strip_differs}
use Rattle.bz_trace_text.proofs.reading.strip.Goals as goal

pub returns-then-text-front : goal.returns-then-text-front
returns-then-text-front c = strip_short c.args.front.now c.args.text.now (strip c.args.front.now c.args.text.now) refl (omega (arith, c.if-text-front.true))

pub returns-then-text-place : goal.returns-then-text-place
returns-then-text-place c =
    c.loop-place.invariant ∙ strip_differs c.args.front.now c.args.text.now c.loop-place.place (omega (arith, c.loop-place-test.true)) (omega (arith, c.loop-place-test.true, c.if-text-front.false)) c.if-text-place.true

pub loop-place-preserved : goal.loop-place-preserved
loop-place-preserved c =
    rw (add-one c.loop-place.place) (c.loop-place.invariant ∙ strip_same c.args.front.now c.args.text.now c.loop-place.place (omega (arith, c.loop-place-test.true)) (omega (arith, c.loop-place-test.true, c.if-text-front.false)) c.if-text-place.false)

pub returns : goal.returns
unfolding strip
returns c =
    let front = c.args.front.now in
    let text = c.args.text.now in
    let at : c.loop-place.place ≡ length front = omega (arith, c.loop-place.auto.place-end, c.loop-place-test.false) in
    let none : drop (length front) front ≡ [] = drop_of_length-le front (omega arith) in
    c.loop-place.invariant ∙ ap (λ n. strip (drop n front) (drop n text)) at ∙ ap (λ p. strip p (drop (length front) text)) none ∙ ap (λ r. Some r) (sym (take_rest text (length front)))
