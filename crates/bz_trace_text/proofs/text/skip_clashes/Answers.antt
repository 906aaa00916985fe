use Rattle.std.proofs.Common.{[], ◌∷◌, ◌++◌, ◌∙◌, arith, length-append}
use Rattle.bz_model.specs.Entries.{IsNumber32}
use Rattle.bz_model.specs.Traces.{clash_text}
use Rattle.bz_trace_text.specs.declared.text.Version.TheVariants.{Two}
use Rattle.bz_trace_text.proofs.Texts.{clash_takes, clash_shorter, no_clash_from, all_more, flat_more}
use Rattle.bz_trace_text.proofs.text.skip_clashes.Goals as goal

pub overflow_add-line : goal.overflow_add-line
overflow_add-line c =
    let less = clash_shorter c.in-Some.field-0-0 c.loop-after.rest.now c.in-Some.after.now c.in-Some.ensures in
    omega (arith, less, c.loop-after.invariant.bound, c.requires)

pub loop-after-smaller : goal.loop-after-smaller
loop-after-smaller c = clash_shorter c.in-Some.field-0-0 c.loop-after.rest.now c.in-Some.after.now c.in-Some.ensures

pub loop-after-preserved : goal.loop-after-preserved
loop-after-preserved c =
    let before = c.loop-after.invariant in
    let takes = clash_takes c.in-Some.field-0-0 c.loop-after.rest.now c.in-Some.after.now c.in-Some.ensures in
    let less = clash_shorter c.in-Some.field-0-0 c.loop-after.rest.now c.in-Some.after.now c.in-Some.ensures in
    let count = length-append before.clashes (c.in-Some.field-0-0 ∷ []) in
    record {
      clashes = before.clashes ++ c.in-Some.field-0-0 ∷ [];
      numbers = all_more IsNumber32 before.clashes c.in-Some.field-0-0 before.numbers takes.1;
      text_is = before.text_is ∙ flat_more clash_text before.clashes c.in-Some.field-0-0 c.in-Some.after.now c.loop-after.rest.now takes.0;
      line_is = omega (arith, before.line_is, count);
      bound = omega (arith, before.bound, less);
    }

pub returns : goal.returns
returns c =
    let before = c.loop-after.invariant in
    record { clashes = before.clashes; numbers = before.numbers; text_is = before.text_is; line_is = before.line_is; no_clash = no_clash_from Two c.loop-after.rest.now c.in_default.ensures }
