use Rattle.bz_complete.proofs.Naming.{of_survey}
use Rattle.bz_complete.proofs.command.names_for.Goals as goal

pub returns-in-Ok : goal.returns-in-Ok
returns-in-Ok c = λ netlist asked read. of_survey netlist asked c.args.part.now c.args.flat.now.wiring c.args.source c.in-Ok.survey c.of.result read c.in-Ok.ensures.parts c.in-Ok.ensures.lines c.in-Ok.ensures.places c.in-Ok.ensures.net c.of.ensures
