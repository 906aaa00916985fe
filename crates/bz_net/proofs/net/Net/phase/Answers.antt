use Rattle.std.proofs.Common.{sym, subst}
use Rattle.bz_model.specs.declared.channel.Phase.{Phase}
use Rattle.bz_model.specs.Nets.{chan_in}
use Rattle.bz_model.specs.Widths.{FitsChan}
use Rattle.bz_net.specs.Simulation.{Simulation}
use Rattle.bz_net.proofs.Soundness.{phase_fits}
use Rattle.bz_net.proofs.net.Net.phase.Goals as goal

pub returns-clause-fits : goal.returns-clause-fits
returns-clause-fits c =
    let n = c.self.inside in
    subst (λ (v : Simulation). FitsChan (chan_in v.wiring.chans c.args.chan) c.phase.result) c.self.view_is
    (subst (λ (phase : Phase). FitsChan (chan_in n.core.wiring.chans c.args.chan) phase) (sym c.phase.ensures.phase)
    (phase_fits n.core.wiring n.core.state n.journal.items c.self.invariant.wired c.self.invariant.run c.args.chan))
