use Rattle.std.proofs.Common.{◌≡◌, ◌<◌, ◌≤◌, ◌+◌, ◌-◌, length, refl, sym, ap, ◌∙◌, subst, arith}
use Rattle.bz_model.specs.declared.event.Entry.TheVariants.{Fired}
use Rattle.bz_model.specs.Nets.{Wiring, Step}
use Rattle.bz_kinds.specs.Riding.{held}
use Rattle.bz_net.specs.Progress.{Progress, Enters}
use Rattle.bz_net.specs.Told.{MayMove, MovesAt}
use Rattle.bz_net.proofs.Clashing.{but_fired}
use Rattle.bz_net.proofs.Entering.{enters_fired, plays_fired, progress}
use Rattle.bz_net.proofs.play.Play.fire.Goals as goal

pub fire-chan-requires : goal.fire-chan-requires
fire-chan-requires c = subst (λ (v : Progress). MayMove v.wiring.sites v.state c.args.comp c.args.at) (sym c.self.view_is) c.requires.may

pub note_move-requires-clause-to : goal.note_move-requires-clause-to
note_move-requires-clause-to c = subst (λ (w : Wiring). c.fire-chan.result.0 ≤ length w.chans) (sym c.fire-chan.ensures.wiring) c.fire-chan.ensures.to

pub note_move-requires-clause-most : goal.note_move-requires-clause-most
note_move-requires-clause-most c = c.self.invariant.most ∙ ap (λ (w : Wiring). length w.sites) (sym c.fire-chan.ensures.wiring)

pub note_move-requires-clause-watches : goal.note_move-requires-clause-watches
note_move-requires-clause-watches c =
    let n = c.self.inside in let r = c.fire-chan.result in let core = c.fire-chan.new.self in
    but_fired n.core.wiring core.wiring n.core.state core.state n.noted c.fire-chan.ensures.wiring c.self.invariant.wired c.self.invariant.watches c.args.comp r.3 r.0 r.1 (held r.2 c.fire-chan.new.value) c.fire-chan.ensures.from c.fire-chan.ensures.step

pub invariant_of-self : goal.invariant_of-self
invariant_of-self c =
    let n = c.self.inside in let r = c.fire-chan.result in let core = c.fire-chan.new.self in
    plays_fired n.core.wiring core.wiring n.core.state core.state n.noted c.note_move.new.noted r.0 r.1 c.fire-chan.ensures.wiring c.self.invariant c.fire-chan.ensures.met c.note_move.ensures

pub returns-clause-enters : goal.returns-clause-enters
returns-clause-enters c =
    let n = c.self.inside in let r = c.fire-chan.result in let core = c.fire-chan.new.self in
    let place : 0 < n.left = subst (λ (v : Progress). 0 < v.left) (sym c.self.view_is) c.requires.place in
    let one : n.left ≡ (n.left - 1) + 1 = omega (arith, place) in
    rw c.held.ensures
    (subst (λ (v : Progress). Enters v (Fired c.args.who c.args.comp r.3 r.0 r.1 (held r.2 c.fire-chan.new.value)) (progress core.wiring core.state c.note_move.new.noted (n.left - 1))) c.self.view_is
    (enters_fired n.core.wiring core.wiring n.core.state core.state n.noted c.note_move.new.noted n.left (n.left - 1) c.fire-chan.ensures.wiring c.self.invariant.wired one c.args.who c.args.comp r.3 r.0 r.1 (held r.2 c.fire-chan.new.value) c.fire-chan.ensures.step c.fire-chan.ensures.met c.note_move.ensures))

pub returns-clause-fired : goal.returns-clause-fired
returns-clause-fired c =
    let r = c.fire-chan.result in (
      r.3,
      subst (λ (v : Progress). MovesAt v.wiring.sites v.state c.args.comp c.args.at r.3) c.self.view_is c.fire-chan.ensures.port,
      (refl, refl, refl),
      λ k mv value next other.
          let (chan, move, val, state) = c.fire-chan.ensures.sole k mv value next (subst (λ (v : Progress). Step v.wiring.sites v.state c.args.comp r.3 k mv value next) (sym c.self.view_is) other) in
          ((λ i. Fired c.args.who c.args.comp r.3 (chan i) (move i) ((c.held.ensures ∙ val) i)), state),
    )
