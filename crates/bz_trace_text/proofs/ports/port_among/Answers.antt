use Rattle.std.proofs.Common.{◌≡◌, suc, [], map, drop, ap, ◌∙◌, arith, Some, None, add-one}
use Rattle.std.proofs.Math.ListN.{drop_of_length-le}
use Rattle.bz_model.specs.Names.{external}
use Rattle.bz_trace_text.specs.Reading.{port_from}
use Rattle.bz_trace_text.proofs.PortLaws.{port_step}
use Rattle.bz_trace_text.proofs.ports.port_among.Goals as goal

pub returns-in-Some : goal.returns-in-Some
returns-in-Some c =
    rw (add-one c.loop-place.place) (c.loop-place.invariant ∙ port_step c.args.ports.now c.loop-place.place c.index-ports-place.result c.args.text.now (Some c.in-Some.rest.now) (omega arith) c.index-ports-place.is (rw c.deref.ensures.value at c.in-Some.ensures))

pub loop-place-preserved : goal.loop-place-preserved
loop-place-preserved c =
    rw (add-one c.loop-place.place) (c.loop-place.invariant ∙ port_step c.args.ports.now c.loop-place.place c.index-ports-place.result c.args.text.now None (omega arith) c.index-ports-place.is (rw c.deref.ensures.value at c.in_default.ensures))

pub returns : goal.returns
unfolding port_from
returns c =
    let none : drop c.loop-place.place c.args.ports.now ≡ [] = drop_of_length-le c.args.ports.now (omega arith) in
    c.loop-place.invariant ∙ ap (λ ps. port_from (suc c.loop-place.place) (map external ps) c.args.text.now) none
