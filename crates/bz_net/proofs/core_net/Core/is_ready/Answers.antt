use Rattle.std.proofs.Common.{subst}
use Rattle.std.specs.Prelude.{MatchBool}
use Rattle.bz_model.specs.Runs.{CanStep}
use Rattle.bz_net.specs.Core.{Standing}
use Rattle.bz_net.proofs.Soundness.{answered}
use Rattle.bz_net.proofs.core_net.Core.is_ready.Goals as goal

pub returns : goal.returns
returns c =
    let n = c.self.inside in
    subst (λ (v : Standing). MatchBool c.contains.result (CanStep v.wiring.sites v.state c.args.comp) (CanStep v.wiring.sites v.state c.args.comp → ⊥)) c.self.view_is (answered _ _ n.ready c.args.comp c.contains.result c.self.invariant.0.ready c.contains.ensures)
