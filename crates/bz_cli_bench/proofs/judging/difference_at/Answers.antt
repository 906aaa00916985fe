use Rattle.std.proofs.Common.{sym, ◌∙◌, ap}
use Rattle.bz_model.specs.Names.{channel}
use Rattle.bz_cli_bench.proofs.Ports.{differs_is, passed_is}
use Rattle.bz_cli_bench.proofs.judging.difference_at.Goals as goal

pub returns : goal.returns
returns c = λ spins.
    let n = c.args.net.now in
    let stream = c.in_ok-stream.stream.now in let tally = c.in_ok-tally.tally.now in
    let told = c.requires c.args.port tally (sym c.in_ok-tally.ensures) in
    let xs = passed_is n.wiring c.args.port n.journal tally c.chan.result c.passed_on-passed.result.now told (c.chan.ensures ∙ ap (λ o. channel o.chans c.args.port) c.names.ensures.value) c.passed_on-passed.ensures in
    (stream, sym c.in_ok-stream.ensures, differs_is stream c.passed_on-passed.result.now _ c.in_ok-place.place _ _ xs c.item_at.ensures c.in_ok-place.ensures.some)
