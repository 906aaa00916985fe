use Rattle.std.proofs.Common.{◌≡◌, ℕ, Some, None, inr, refl, sym, subst}
use Rattle.bz_model.specs.Nets.{Step}
use Rattle.bz_net.specs.Due.{GivesAsSteps, HasStep}
use Rattle.bz_model.specs.declared.event.Entry.{Entry}
use Rattle.bz_net.specs.Progress.{Enters, Progress}
use Rattle.bz_net.specs.Told.{MayMove}
use Rattle.bz_net.proofs.play.Play.fire_on.Goals as goal

same_port : (p q : ℕ) → Some p ≡ Some q → q ≡ p
same_port p q e = cc

no_port : (p : ℕ) → None ≡ Some p → ⊥
no_port p e = cc

pub has_step-requires-clause-given : goal.has_step-requires-clause-given
has_step-requires-clause-given c = subst (λ (v : Progress). GivesAsSteps v.wiring.sites v.state c.args.comp c.args.chan c.args.mv c.args.value) (sym c.self.view_is) c.requires

pub fire-requires-clause-may : goal.fire-requires-clause-may
fire-requires-clause-may c =
    subst (λ (v : Progress). MayMove v.wiring.sites v.state c.args.comp (Some c.in-Some.port)) c.self.view_is c.if-not-has_step.ensures.1.steps_at

pub returns-in_default-clause-none : goal.returns-in_default-clause-none
returns-in_default-clause-none c = (
  refl,
  inr (λ p has.
      let own = subst (λ (v : Progress). HasStep v.wiring.sites v.state c.args.comp p c.args.chan c.args.mv c.args.value) (sym c.self.view_is) has in
      no_port p (c.in_default.ensures.sole p c.args.value own.0 own.1)),
)

pub returns-then-not-has_step-clause-none : goal.returns-then-not-has_step-clause-none
returns-then-not-has_step-clause-none c = (
  refl,
  inr (λ p has.
      let own = subst (λ (v : Progress). HasStep v.wiring.sites v.state c.args.comp p c.args.chan c.args.mv c.args.value) (sym c.self.view_is) has in
      let at = same_port c.in-Some.port p (c.in-Some.ensures.sole p c.args.value own.0 own.1) in
      c.if-not-has_step.ensures (subst (λ (q : ℕ). HasStep c.self.inside.core.wiring.sites c.self.inside.core.state c.args.comp q c.args.chan c.args.mv c.args.value) at own)),
)

pub returns-clause-enters : goal.returns-clause-enters
returns-clause-enters c =
    let (p, is, firing, sole) = c.fire.ensures.fired in
    let has = subst (λ (v : Progress). HasStep v.wiring.sites v.state c.args.comp c.in-Some.port c.args.chan c.args.mv c.args.value) c.self.view_is c.if-not-has_step.ensures in
    let here = subst (λ (q : ℕ). HasStep c.args.self.now.wiring.sites c.args.self.now.state c.args.comp q c.args.chan c.args.mv c.args.value) (sym is) has in
    let entry = (sole c.args.chan c.args.mv c.args.value here.0 here.1).0 in
    subst (λ (q : ℕ). Enters c.args.self.now (Entry.Fired c.args.who c.args.comp q c.args.chan c.args.mv c.args.value) c.fire.new.self) is
    (subst (λ (e : Entry). Enters c.args.self.now e c.fire.new.self) entry c.fire.ensures.enters)

pub returns-clause-sole : goal.returns-clause-sole
returns-clause-sole c = λ q other next step.
    let (p, is, firing, sole) = c.fire.ensures.fired in
    let own : Step c.self.inside.core.wiring.sites c.self.inside.core.state c.args.comp q c.args.chan c.args.mv other next =
    subst (λ (v : Progress). Step v.wiring.sites v.state c.args.comp q c.args.chan c.args.mv other next) (sym c.self.view_is) step in
    let at = same_port c.in-Some.port q (c.in-Some.ensures.sole q other next own) in
    let here = subst (λ (r : ℕ). Step c.args.self.now.wiring.sites c.args.self.now.state c.args.comp r c.args.chan c.args.mv other next) (sym is)
    (subst (λ (r : ℕ). Step c.args.self.now.wiring.sites c.args.self.now.state c.args.comp r c.args.chan c.args.mv other next) at step) in
    sym (sole c.args.chan c.args.mv other next here).1
