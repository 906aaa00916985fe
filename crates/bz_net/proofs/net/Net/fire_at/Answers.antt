use Rattle.std.proofs.Common.{◌<◌, ◌≤◌, ◌++◌, [], ◌∷◌, length, sym, ap, ◌∙◌, subst, arith}
use Rattle.bz_model.specs.Nets.{Wiring, Step, StepsAt, chan_in}
use Rattle.bz_model.specs.Widths.{FitsOn}
use Rattle.bz_model.specs.declared.event.Entry.TheVariants.{Fired}
use Rattle.bz_net.specs.Simulation.{Simulation}
use Rattle.bz_net.proofs.Clashing.{but_fired}
use Rattle.bz_net.proofs.Kept.{keeps_fired}
use Rattle.bz_net.proofs.Soundness.{step_fits}
use Rattle.bz_net.proofs.net.Net.fire_at.Goals as goal

pub fire_at-chan-requires : goal.fire_at-chan-requires
fire_at-chan-requires c =
    let same = c.self.view_is ∙ c.in_ok-admit.ensures.ok.rest_same in
    subst (λ (v : Simulation). StepsAt v.wiring.sites v.state c.args.comp c.args.port) (sym same) c.requires

pub note_move-requires-clause-to : goal.note_move-requires-clause-to
note_move-requires-clause-to c = subst (λ (w : Wiring). c.fire_at-chan.result.0 ≤ length w.chans) (sym c.fire_at-chan.ensures.wiring) c.fire_at-chan.ensures.to

pub note_move-requires-clause-most : goal.note_move-requires-clause-most
note_move-requires-clause-most c = c.self.invariant.most ∙ ap (λ (w : Wiring). length w.sites) (sym c.fire_at-chan.ensures.wiring)

pub note_move-requires-clause-watches : goal.note_move-requires-clause-watches
note_move-requires-clause-watches c =
    let n = c.self.inside in let r = c.fire_at-chan.result in let core = c.fire_at-chan.new.self in
    but_fired n.core.wiring core.wiring n.core.state core.state n.noted c.fire_at-chan.ensures.wiring c.self.invariant.wired c.self.invariant.watches c.args.comp c.args.port r.0 r.1 r.2 c.fire_at-chan.ensures.from c.fire_at-chan.ensures.step

pub invariant_of-self : goal.invariant_of-self
invariant_of-self c =
    let n = c.self.inside in let r = c.fire_at-chan.result in let core = c.fire_at-chan.new.self in
    let place : length n.journal.items < n.limit = subst (λ (v : Simulation). length v.journal < v.limit) (sym c.self.view_is) c.in_ok-admit.ensures.ok.has_place in
    rw (c.push.ensures.items, c.unwrap.ensures)
    (keeps_fired n.core.wiring core.wiring n.core.state core.state n.journal.items n.limit n.noted c.note_move.new.noted c.args.who c.args.comp c.args.port r.0 r.1 r.2 c.fire_at-chan.ensures.wiring c.self.invariant place c.fire_at-chan.ensures.step c.fire_at-chan.ensures.unbroken c.fire_at-chan.ensures.met c.note_move.ensures)

pub returns-clause-adds : goal.returns-clause-adds
returns-clause-adds c =
    let r = c.fire_at-chan.result in let core = c.fire_at-chan.new.self in
    let same = c.self.view_is ∙ c.in_ok-admit.ensures.ok.rest_same in
    record {
      wiring = c.fire_at-chan.ensures.wiring ∙ ap (λ (v : Simulation). v.wiring) same;
      journal = rw (c.push.ensures.items, c.unwrap.ensures) (ap (λ (v : Simulation). v.journal ++ Fired c.args.who c.args.comp c.args.port r.0 r.1 r.2 ∷ []) same);
      follows = subst (λ (v : Simulation). Step v.wiring.sites v.state c.args.comp c.args.port r.0 r.1 r.2 core.state) same c.fire_at-chan.ensures.step;
      limit = ap (λ (v : Simulation). v.limit) same;
      had_place = subst (λ (v : Simulation). length v.journal < v.limit) c.in_ok-admit.ensures.ok.rest_same c.in_ok-admit.ensures.ok.has_place;
      room =
          let least = c.in_ok-admit.ensures.ok.no_less in
          let was = ap (λ (v : Simulation). v.room) c.self.view_is in
          let grown = c.push.ensures.capacity in
          let longer = c.push.ensures.len in
          omega (arith, least, was, grown, longer);
    }

pub returns-clause-fits : goal.returns-clause-fits
returns-clause-fits c =
    let n = c.self.inside in let r = c.fire_at-chan.result in
    let same = c.self.view_is ∙ c.in_ok-admit.ensures.ok.rest_same in
    subst (λ (v : Simulation). FitsOn (chan_in v.wiring.chans r.0) r.1 r.2) same
    (step_fits n.core.wiring n.core.state n.journal.items c.self.invariant.wired c.self.invariant.run _ _ _ _ _ _ c.fire_at-chan.ensures.step)

pub returns-clause-on : goal.returns-clause-on
returns-clause-on c =
    let same = c.self.view_is ∙ c.in_ok-admit.ensures.ok.rest_same in
    (c.fire_at-chan.ensures.from, subst (λ (v : Simulation). c.fire_at-chan.result.0 ≤ length v.wiring.chans) same c.fire_at-chan.ensures.to)

pub returns-clause-sole : goal.returns-clause-sole
returns-clause-sole c k mv value next other =
    let same = c.self.view_is ∙ c.in_ok-admit.ensures.ok.rest_same in
    let (chan, move, val, state) = c.fire_at-chan.ensures.sole k mv value next (subst (λ (v : Simulation). Step v.wiring.sites v.state c.args.comp c.args.port k mv value next) (sym same) other) in
    ((λ i. Fired c.args.who c.args.comp c.args.port (chan i) (move i) (val i)), state)
