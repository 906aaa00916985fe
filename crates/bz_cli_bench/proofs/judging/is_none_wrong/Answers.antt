use Rattle.std.proofs.Common.{◌≡◌, ◌∙◌, ℕ, ◌+◌, true, Some, refl, sym, ap, length, arith}
use Rattle.std.proofs.lemmas.List.{length-map}
use Rattle.bz_bench.specs.declared.stream.Item.TheVariants.{Any}
use Rattle.bz_bench.specs.declared.stream.Stream.{Stream}
use Rattle.bz_bench.proofs.Each.{first_all, first_more}
use Rattle.bz_model.specs.Names.{channel, external, port_sense}
use Rattle.bz_cli_bench.specs.Verdicts.{gives}
use Rattle.bz_cli_bench.proofs.judging.is_none_wrong.Goals as goal
use Rattle.bz_cli_bench.proofs.judging.is_none_wrong.Goals.{then-gives+else-not-takes_any, else-gives}

pub loop-place-preserved : goal.loop-place-preserved
loop-place-preserved c =
    let w = c.args.net.now.wiring in
    let P : ℕ → Stream → Type 0 = λ port stream. gives (channel w.chans port) (port_sense w.ports port) ≡ true → stream.forever ≡ Some Any in
    let port = c.loop-place.place + 1 in
    let chan = c.chan.ensures ∙ ap (λ o. channel o.chans port) c.names-names.ensures.value in
    let sense = c.passive.ensures ∙ ap (λ o. port_sense o.ports port) c.names-names.ensures.value in
    let told : c.gives.result ≡ gives (channel w.chans port) (port_sense w.ports port) = c.gives.ensures ∙ (λ i. gives (chan i) (sense i)) in
    elim c.if-gives.branch [
      | then-gives+else-not-takes_any b ↦ record {
        each = first_more c.args.streams.now P c.loop-place.place c.loop-place.invariant.each (λ s is g. b.if-not-takes_any.ensures.each refl s is);
        some = λ e. b.if-not-takes_any.ensures.some refl;
      }
      | else-gives b ↦ record {
        each = first_more c.args.streams.now P c.loop-place.place c.loop-place.invariant.each (λ s is g. let f = b.if-gives.false in let e = told ∙ g in cc);
        some = λ e. c.loop-place.invariant.some (sym b.is_some-is ∙ e);
      }
    ]

pub returns : goal.returns
returns c = λ yes.
    let w = c.args.net.now.wiring in
    let ports = sym (length-map c.ports-ports.result.now external) ∙ ap length c.ports-ports.ensures.ports ∙ ap (λ o. length o.ports) c.names-names.ensures.value in
    let all = c.requires in
    let end = c.loop-place-test.false in record {
      some = c.loop-place.invariant.some yes;
      each = first_all c.args.streams.now (λ port stream. gives (channel w.chans port) (port_sense w.ports port) ≡ true → stream.forever ≡ Some Any) c.loop-place.place (omega (arith, ports, all, end)) c.loop-place.invariant.each;
    }
