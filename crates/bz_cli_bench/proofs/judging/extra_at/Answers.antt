use Rattle.std.proofs.Common.{◌≡◌, ◌∙◌, length, refl, sym, ap, arith}
use Rattle.bz_bench.specs.Dues.{item_at}
use Rattle.bz_bench.specs.Streams.{begun}
use Rattle.bz_cli_bench.proofs.judging.extra_at.Goals as goal

pub returns : goal.returns
returns c = λ spins.
    let n = c.args.net.now in
    let stream = c.in_ok-stream.stream.now in let tally = c.in_ok-tally.tally.now in
    let told = c.requires c.args.port tally (sym c.in_ok-tally.ensures) in
    let count = ap length told.begun_is in
    let own = c.len.ensures in
    let same : length (begun c.args.port n.journal) ≡ c.len.result = grind (arith, count, own) in
    (stream, sym c.in_ok-stream.ensures, ap (item_at stream) same ∙ c.if-not-is_over.ensures refl, c.in_ok-came.ensures.some)
