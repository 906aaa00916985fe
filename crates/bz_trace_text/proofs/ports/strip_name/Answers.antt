use Rattle.std.proofs.Common.{◌≡◌, [], drop, ap, ◌∙◌, arith, Some, None}
use Rattle.std.proofs.Math.ListN.{drop_of_length-le}
use Rattle.std.specs.List.{flat_map}
use Rattle.bz_model.specs.Traces.{byte_form}
use Rattle.bz_trace_text.specs.Reading.{strip}
use Rattle.bz_trace_text.proofs.Strips.{name_step}
use Rattle.bz_trace_text.proofs.ports.strip_name.Goals as goal

pub returns-in_default : goal.returns-in_default
returns-in_default c =
    c.loop-byte.invariant ∙ name_step c.args.name.now c.loop-byte.byte-index c.loop-byte.rest.now None (omega arith) c.in_default.ensures

pub loop-byte-preserved : goal.loop-byte-preserved
loop-byte-preserved c =
    c.loop-byte.invariant ∙ name_step c.args.name.now c.loop-byte.byte-index c.loop-byte.rest.now (Some c.in-Some.after.now) (omega arith) c.in-Some.ensures

pub returns : goal.returns
unfolding strip
returns c =
    let none : drop c.loop-byte.byte-index c.args.name.now ≡ [] = drop_of_length-le c.args.name.now (omega arith) in
    c.loop-byte.invariant ∙ ap (λ s. strip (flat_map byte_form s) c.loop-byte.rest.now) none
