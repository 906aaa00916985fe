use Rattle.std.proofs.Common.{◌≡◌, ◌+◌, ◌-◌, subst, arith}
use Rattle.bz_model.specs.declared.event.Entry.TheVariants.{Rested}
use Rattle.bz_model.specs.Runs.{Rest}
use Rattle.bz_net.specs.Progress.{Progress, Enters}
use Rattle.bz_net.proofs.Entering.{enters_rested, progress}
use Rattle.bz_net.proofs.play.Play.rest.Goals as goal

pub returns-then-self-eq0-clause-resting : goal.returns-then-self-eq0-clause-resting
returns-then-self-eq0-clause-resting c =
    let n = c.self.inside in
    let rests : Rest n.core.wiring.sites n.core.state = rw c.in_default.is at c.next_ready.ensures in
    subst (λ (v : Progress). Rest v.wiring.sites v.state) c.self.view_is rests

pub returns-clause-ok : goal.returns-clause-ok
returns-clause-ok c =
    let n = c.self.inside in
    let rests : Rest n.core.wiring.sites n.core.state = rw c.in_default.is at c.next_ready.ensures in
    let one : n.left ≡ (n.left - 1) + 1 = omega arith in
    subst (λ (v : Progress). Enters v (Rested c.args.who) (progress n.core.wiring n.core.state n.noted (n.left - 1))) c.self.view_is
    (enters_rested n.core.wiring n.core.state n.noted n.left (n.left - 1) c.args.who one rests)
