use Rattle.std.specs.Option.{option_copied}
use Rattle.bz_words.specs.Words.{texts}
use Rattle.bz_cli.specs.Pooling.{Pools}
use Rattle.bz_cli_commands.specs.Endings.{of_pooled}
use Rattle.bz_cli_commands.proofs.Performed.{does}
use Rattle.bz_cli_commands.proofs.commands.pool.Goals as goal

pub returns-clause-pools : goal.returns-clause-pools
returns-clause-pools g c =
    λ workers journal. does (of_pooled c.args.options.strict) _ (λ text answer. Pools text (texts c.args.given.now.words.now) (option_copied c.args.given.now.part) c.args.options.workers c.args.options.fuel c.args.options.journal _ _ answer) c.pool_cmd-pooled.result _ c.pool_cmd-pooled.ensures.pools c.closed.ensures
