use Rattle.std.proofs.Common.{sym, subst}
use Rattle.bz_net.specs.Core.{Standing}
use Rattle.bz_net.specs.Due.{GivesAsSteps}
use Rattle.bz_net.proofs.core_net.Core.has_step.Goals as goal

pub has_step_by-requires-clause-given : goal.has_step_by-requires-clause-given
has_step_by-requires-clause-given c = subst (λ (v : Standing). GivesAsSteps v.wiring.sites v.state c.args.comp c.args.chan c.args.mv c.args.value) (sym c.self.view_is) c.requires.given
