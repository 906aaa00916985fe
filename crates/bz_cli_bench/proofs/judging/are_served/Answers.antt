use Rattle.std.proofs.Common.{refl, sym, arith, ap, length, ◌∙◌}
use Rattle.bz_cli_bench.specs.Verdicts.{IsServed}
use Rattle.std.proofs.lemmas.List.{length-map}
use Rattle.bz_model.specs.Names.{external}
use Rattle.bz_bench.proofs.Each.{first_all, first_more}
use Rattle.bz_cli_bench.proofs.judging.are_served.Goals as goal

pub loop-place-preserved : goal.loop-place-preserved
loop-place-preserved c =
    let n = c.args.net.now in
    first_more c.args.streams.now (IsServed n.wiring n.state n.journal c.args.from) c.loop-place.place c.loop-place.invariant (λ s is. c.if-not-is_served_at.ensures refl c.args.from c.requires.since s is)

pub returns : goal.returns
returns c = λ yes.
    let n = c.args.net.now in
    let ports = sym (length-map c.ports-ports.result.now external) ∙ ap length c.ports-ports.ensures.ports ∙ ap (λ o. length o.ports) c.names.ensures.value in
    let all = c.requires.streams in
    let end = c.loop-place-test.false in
    first_all c.args.streams.now (IsServed n.wiring n.state n.journal c.args.from) c.loop-place.place (omega (arith, ports, all, end)) c.loop-place.invariant
