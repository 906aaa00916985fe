use Rattle.bz_cli_commands.proofs.commands.kinds.Goals as goal

pub returns : goal.returns
returns g c = record { kinds = (c.kinds_cmd.result, c.kinds_cmd.ensures, c.done.ensures) }
