use Rattle.bz_cli_source.specs.PartLists.{ListsParts}
use Rattle.bz_cli_commands.proofs.Performed.{is_done}
use Rattle.bz_cli_commands.proofs.commands.parts.Goals as goal

pub returns-clause-parts : goal.returns-clause-parts
returns-clause-parts g c =
    is_done _ (λ text answer. ListsParts text _ _ answer) c.parts_cmd.result _ c.parts_cmd.ensures.lists c.done.ensures
