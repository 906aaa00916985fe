use Rattle.std.proofs.Common.{arith}
use Rattle.std.specs.Option.{option_copied}
use Rattle.bz_words.specs.Words.{texts}
use Rattle.bz_cli.proofs.PoolOutcomes.{pools_on}
use Rattle.bz_cli.proofs.pooling.pool_cmd.Goals as goal

pub returns-clause-pools : goal.returns-clause-pools
returns-clause-pools g c =
    let plays = rw c.as_slice.ensures.value at c.pool_text.ensures in
    pools_on _ c.in_ok-text.text.items (texts c.args.words.now) (option_copied c.args.asked) c.args.options.workers c.args.options.fuel c.args.options.journal c.in_ok-sessions.sessions.items _ _ _ c.in_ok-text.ensures.whole (omega (arith, c.in_ok-text.text.ok.0, c.in_ok-text.ensures.limit)) c.in_ok-sessions.ensures.ok plays
