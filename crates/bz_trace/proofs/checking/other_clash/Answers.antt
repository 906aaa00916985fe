use Rattle.std.proofs.Common.{◌≡◌, ◌≢◌, ◌++◌, ◌+◌, [], length, get_or, Some, subst, sym, ap, arith}
use Rattle.std.specs.List.{AllByRecursion}
use Rattle.std.proofs.lemmas.Grind.{common_steps}
use Rattle.bz_model.specs.Entries.{IsNumber32}
use Rattle.bz_trace_text.specs.Texts.{clash_lines}
use Rattle.bz_trace.specs.Verdicts.{FirstDiffers}
use Rattle.bz_trace.proofs.Clashes.{stops_short, stops_other, all_there, goes_past, here_is, whole_take, more_read}
use Rattle.bz_trace.proofs.checking.other_clash.Goals as goal

pub returns-in_default : goal.returns-in_default
returns-in_default c =
    let inv = c.loop-comp.invariant in
    let due = c.args.due.now in
    let i = c.loop-comp.comp-index in
    subst (λ n. FirstDiffers c.args.text.now due (Some n)) (sym inv.place_is)
    (stops_short c.args.text.now due c.loop-comp.rest.now i (get_or due i 0) inv.own inv.text_is c.loop-comp-test.true (here_is due i c.loop-comp-test.true) c.in_default.ensures)

pub returns-then-found-comp : goal.returns-then-found-comp
returns-then-found-comp c =
    let inv = c.loop-comp.invariant in
    let due = c.args.due.now in
    let i = c.loop-comp.comp-index in
    subst (λ n. FirstDiffers c.args.text.now due (Some n)) (sym inv.place_is)
    (stops_other c.args.text.now due c.loop-comp.rest.now i (get_or due i 0) c.in-Some.found c.in-Some.after.now inv.own inv.text_is c.loop-comp-test.true (here_is due i c.loop-comp-test.true) c.in-Some.ensures c.if-found-comp.true)

pub loop-comp-preserved : goal.loop-comp-preserved
loop-comp-preserved c =
    let inv = c.loop-comp.invariant in
    let more = more_read c.args.text.now c.args.due.now c.loop-comp.rest.now c.in-Some.after.now c.loop-comp.comp-index c.in-Some.found inv.own inv.text_is c.loop-comp-test.true c.if-found-comp.false c.in-Some.ensures in
    record { place_is = ap (λ n. n + 1) inv.place_is; own = more.0; text_is = more.1 }

pub returns-then-is_empty : goal.returns-then-is_empty
returns-then-is_empty c =
    let inv = c.loop-comp.invariant in
    let end : c.loop-comp.rest.now ≡ [] = grind (arith, common_steps) in
    let is = whole_take c.args.due.now c.loop-comp.comp-index c.loop-comp-test.false in
    all_there c.args.text.now c.args.due.now c.loop-comp.rest.now (subst (AllByRecursion IsNumber32) is inv.own) (subst (λ l. c.args.text.now ≡ clash_lines l ++ c.loop-comp.rest.now) is inv.text_is) end

pub returns-else-is_empty : goal.returns-else-is_empty
returns-else-is_empty c =
    let inv = c.loop-comp.invariant in
    let some : c.loop-comp.rest.now ≢ [] = grind (arith, common_steps) in
    let is = whole_take c.args.due.now c.loop-comp.comp-index c.loop-comp-test.false in
    let at : length c.args.due.now ≡ c.loop-comp.place = omega (arith, inv.place_is, c.loop-comp-test.false, c.loop-comp.auto.comp-index-end) in
    subst (λ n. FirstDiffers c.args.text.now c.args.due.now (Some n)) at
    (goes_past c.args.text.now c.args.due.now c.loop-comp.rest.now (subst (AllByRecursion IsNumber32) is inv.own) (subst (λ l. c.args.text.now ≡ clash_lines l ++ c.loop-comp.rest.now) is inv.text_is) some)
