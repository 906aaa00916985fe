use Rattle.std.proofs.Common.{ℕ, subst}
use Rattle.bz_model.specs.Nets.{Step}
use Rattle.bz_kinds.specs.Riding.{held}
use Rattle.bz_net.specs.Core.{IsSole}
use Rattle.bz_net.proofs.core_net.Core.fire_at.Goals as goal

pub returns-clause-step : goal.returns-clause-step
returns-clause-step c =
    let r = c.fire-chan.result in
    rw c.held.ensures
    (subst (λ (p : ℕ). Step c.args.self.now.wiring.sites c.args.self.now.state c.args.comp p r.0 r.1 (held r.2 c.fire-chan.new.value) c.fire-chan.new.self.state) c.fire-chan.ensures.port c.fire-chan.ensures.step)

pub returns-clause-sole : goal.returns-clause-sole
returns-clause-sole c =
    let r = c.fire-chan.result in
    rw c.held.ensures
    (subst (λ (p : ℕ). IsSole c.args.self.now c.fire-chan.new.self c.args.comp p r.0 r.1 (held r.2 c.fire-chan.new.value)) c.fire-chan.ensures.port c.fire-chan.ensures.sole)
