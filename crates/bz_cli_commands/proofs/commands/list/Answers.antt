use Rattle.std.specs.Option.{option_copied}
use Rattle.bz_cli_input.specs.Listed.{Lists}
use Rattle.bz_cli_source.specs.Listed as placed
use Rattle.bz_cli_commands.proofs.Performed.{is_done}
use Rattle.bz_cli_commands.proofs.commands.list.Goals as goal

pub returns-then-options-clause-places : goal.returns-then-options-clause-places
returns-then-options-clause-places g c =
    λ places. is_done _ (λ text answer. placed.Lists text (option_copied c.args.part) _ _ answer) c.list_paths_cmd.result _ c.list_paths_cmd.ensures.lists c.done.ensures

pub returns-else-options-clause-plainly : goal.returns-else-options-clause-plainly
returns-else-options-clause-plainly g c =
    λ plainly. is_done _ (λ text answer. Lists text (option_copied c.args.part) _ _ answer) c.list_cmd.result _ c.list_cmd.ensures.lists c.done-else-options.ensures
