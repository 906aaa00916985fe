use Rattle.std.specs.Option.{option_copied}
use Rattle.bz_words.specs.Words.{texts}
use Rattle.bz_cli_core.specs.Running.{Runs}
use Rattle.bz_cli_commands.specs.Endings.{of_run}
use Rattle.bz_cli_commands.proofs.Performed.{does}
use Rattle.bz_cli_commands.proofs.commands.run_watched.Goals as goal

pub returns-clause-runs : goal.returns-clause-runs
returns-clause-runs g c =
    does of_run _ (λ text answer. Runs text (texts c.args.given.now.words.now) (option_copied c.args.given.now.part) c.args.options.journal c.args.options.strict _ _ answer) c.run_cmd-played.result _ c.run_cmd-played.ensures.runs c.ended.ensures
