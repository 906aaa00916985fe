use Rattle.std.specs.Option.{option_copied}
use Rattle.bz_draw.specs.Drawing.{Draws}
use Rattle.bz_draw.specs.declared.fault.NoDrawing.{NoDrawing}
use Rattle.bz_cli_commands.specs.Endings.{of_drawing}
use Rattle.bz_cli_commands.proofs.Performed.{does}
use Rattle.bz_cli_commands.proofs.commands.draw.Goals as goal

pub returns-clause-draws : goal.returns-clause-draws
returns-clause-draws g c =
    does of_drawing _ (λ text answer. Draws {N = NoDrawing} text (option_copied c.args.part) _ _ answer) c.draw_cmd-drawn.result _ c.draw_cmd-drawn.ensures.draws c.drawn_or_told.ensures
