use Rattle.std.proofs.Common.{◌∙◌, sym, ap, length, arith}
use Rattle.std.proofs.lemmas.List.{length-map}
use Rattle.bz_model.specs.Names.{external}
use Rattle.bz_cli_bench.proofs.plan.no_streams.Goals as goal

pub returns : goal.returns
returns c =
    let ports = sym (length-map c.ports-count.result.now external) ∙ ap length c.ports-count.ensures.value in
    let same = c.loop-place.invariant in
    let end = c.loop-place-test.false in
    let most = c.loop-place.auto.place-end in
    omega (arith, ports, same, end, most)
