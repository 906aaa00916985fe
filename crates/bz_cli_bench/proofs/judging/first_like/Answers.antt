use Rattle.std.proofs.Common.{List, take, sym, subst}
use Rattle.bz_model.specs.declared.event.Entry.{Entry}
use Rattle.bz_explore_net.specs.Replaying.{IsRun}
use Rattle.bz_cli_bench.proofs.Repeated.{front_again}
use Rattle.bz_cli_bench.proofs.judging.first_like.Goals as goal

pub replay-requires-clause-run : goal.replay-requires-clause-run
replay-requires-clause-run c =
    let n = c.args.net.now in let w = c.args.flat.now.wiring in
    subst (λ (es : List Entry). IsRun w (take c.min-from.result es)) (sym c.journal-journal.ensures.entries)
    (front_again w n.wiring n.state n.journal c.min-from.result c.requires c.journal-journal.ensures.run)
