use Rattle.std.proofs.Common.{◌≡◌, ℕ, Some, sym, subst}
use Rattle.bz_model.specs.declared.event.Entry.{Entry}
use Rattle.bz_model.specs.Nets.{Step}
use Rattle.bz_net.specs.Due.{GivesAsSteps, HasStep}
use Rattle.bz_net.specs.Foretelling.{IsForetold}
use Rattle.bz_net.specs.Progress.{Enters, Progress}
use Rattle.bz_net.proofs.play.Play.fire_foretold.Goals as goal

same_port : (p q : ℕ) → Some p ≡ Some q → q ≡ p
same_port p q e = cc

pub carries-requires-clause-foretold : goal.carries-requires-clause-foretold
carries-requires-clause-foretold c = subst (λ (v : Progress). IsForetold v.wiring.sites v.state c.args.told) (sym c.self.view_is) c.requires.foretold

pub carries-requires-clause-given : goal.carries-requires-clause-given
carries-requires-clause-given c =
    let t = c.args.told in
    subst (λ (v : Progress). GivesAsSteps v.wiring.sites v.state t.comp t.chan t.mv c.args.value) (sym c.self.view_is) c.requires.given

pub fire-requires-clause-may : goal.fire-requires-clause-may
fire-requires-clause-may c = let (value, (next, step)) = c.requires.foretold in step.steps_at

pub returns-clause-enters : goal.returns-clause-enters
returns-clause-enters c = λ made.
    let t = c.args.told in let value = c.args.value in let old = c.args.self.now in
    let (p, is, firing, sole) = c.fire.ensures.fired in
    let has = subst (λ (v : Progress). HasStep v.wiring.sites v.state t.comp t.port t.chan t.mv value) c.self.view_is (c.carries.ensures.has c.if-not-carries.false) in
    let here = subst (λ (q : ℕ). HasStep old.wiring.sites old.state t.comp q t.chan t.mv value) (sym is) has in
    let entry = (sole t.chan t.mv value here.0 here.1).0 in
    subst (λ (q : ℕ). Enters old (Entry.Fired c.args.who t.comp q t.chan t.mv value) c.fire.new.self) is
    (subst (λ (e : Entry). Enters old e c.fire.new.self) entry c.fire.ensures.enters)

pub returns-clause-sole : goal.returns-clause-sole
returns-clause-sole c = λ made q other next step.
    let t = c.args.told in let old = c.args.self.now in let n = c.self.inside in
    let (p, is, firing, sole) = c.fire.ensures.fired in
    let own : Step n.core.wiring.sites n.core.state t.comp q t.chan t.mv other next = subst (λ (v : Progress). Step v.wiring.sites v.state t.comp q t.chan t.mv other next) (sym c.self.view_is) step in
    let at = same_port t.port q (c.carries.ensures.sole q other next own) in
    let here = subst (λ (r : ℕ). Step old.wiring.sites old.state t.comp r t.chan t.mv other next) (sym is) (subst (λ (r : ℕ). Step old.wiring.sites old.state t.comp r t.chan t.mv other next) at step) in
    sym (sole t.chan t.mv other next here).1
