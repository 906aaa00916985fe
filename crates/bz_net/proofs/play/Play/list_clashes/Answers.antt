use Rattle.std.proofs.Common.{subst, sym}
use Rattle.bz_net.specs.Noted.{Notes}
use Rattle.bz_net.specs.Progress.{PlaysWell}
use Rattle.bz_net.proofs.play.Play.list_clashes.Goals as goal

pub invariant_of-self : goal.invariant_of-self
invariant_of-self c =
    let n = c.self.inside in let kept = c.self.invariant in
    subst (λ (v : Notes). PlaysWell n.core.wiring n.core.state v) (sym c.list.ensures) (record { wired = kept.wired; most = kept.most; watches = record { held = kept.watches.held; sole = kept.watches.sole } })
