use Rattle.std.proofs.Common.{◌∙◌, ap}
use Rattle.bz_kinds.specs.Ports.{is_due}
use Rattle.bz_kinds.proofs.ReadyLaws.{due_where, opens_closed}
use Rattle.bz_kinds.proofs.comp.has_move.Goals as goal

pub returns-clause-due : goal.returns-clause-due
returns-clause-due c = due_where _ _ _ _ _ _ _ c.comp.view_is c.comp.invariant.0 c.args.port c.is_due.result (c.is_due.ensures ∙ ap is_due c.get.ensures)

pub returns-clause-turns : goal.returns-clause-turns
returns-clause-turns c = opens_closed _ _ _ _ _ _ _ c.comp.view_is c.comp.invariant.0 c.comp.invariant.1.2
