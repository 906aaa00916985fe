use Rattle.std.proofs.Common.{◌≡◌, ◌≤◌, ◌+◌, ◌-◌, None, length, sym, ap, ◌∙◌, subst, arith}
use Rattle.bz_model.specs.declared.event.Entry.TheVariants.{Host}
use Rattle.bz_model.specs.Hosts.{refusal_at}
use Rattle.bz_model.specs.Nets.{Wiring}
use Rattle.bz_net.specs.Progress.{Progress, Enters}
use Rattle.bz_net.proofs.Clashing.{but_commanded}
use Rattle.bz_net.proofs.Entering.{enters_commanded, plays_commanded, progress}
use Rattle.bz_net.proofs.play.Play.command_at.Goals as goal

pub command-reply-requires-clause-to : goal.command-reply-requires-clause-to
command-reply-requires-clause-to c = subst (λ (v : Progress). c.args.port ≤ length v.wiring.ports) (sym c.self.view_is) c.requires.to

pub command-reply-requires-clause-agreed : goal.command-reply-requires-clause-agreed
command-reply-requires-clause-agreed c = subst (λ (v : Progress). refusal_at v.wiring c.args.verb c.args.port c.args.value ≡ None) (sym c.self.view_is) c.requires.agreed

pub note_clash-requires-clause-to : goal.note_clash-requires-clause-to
note_clash-requires-clause-to c = subst (λ (w : Wiring). c.args.port ≤ length w.chans) (sym c.command-reply.ensures.wiring) c.command-reply.ensures.within

pub note_clash-requires-clause-most : goal.note_clash-requires-clause-most
note_clash-requires-clause-most c = c.self.invariant.most ∙ ap (λ (w : Wiring). length w.sites) (sym c.command-reply.ensures.wiring)

pub note_clash-requires-clause-watches : goal.note_clash-requires-clause-watches
note_clash-requires-clause-watches c =
    let n = c.self.inside in let core = c.command-reply.new.self in
    but_commanded n.core.wiring core.wiring n.core.state core.state n.noted c.command-reply.ensures.wiring c.self.invariant.wired c.self.invariant.watches c.args.verb c.args.port c.args.value c.command-reply.result c.command-reply.ensures.step

pub invariant_of-self : goal.invariant_of-self
invariant_of-self c =
    let n = c.self.inside in let core = c.command-reply.new.self in
    plays_commanded n.core.wiring core.wiring n.core.state core.state n.noted c.note_clash.new.noted c.args.port c.command-reply.ensures.wiring c.self.invariant c.note_clash.ensures

pub returns-clause-enters : goal.returns-clause-enters
returns-clause-enters c =
    let n = c.self.inside in let core = c.command-reply.new.self in
    let one : n.left ≡ (n.left - 1) + 1 = omega arith in
    subst (λ (v : Progress). Enters v (Host c.args.who c.args.verb c.args.port c.args.value c.command-reply.result) (progress core.wiring core.state c.note_clash.new.noted (n.left - 1))) c.self.view_is
    (enters_commanded n.core.wiring core.wiring n.core.state core.state n.noted c.note_clash.new.noted n.left (n.left - 1) c.command-reply.ensures.wiring c.self.invariant.wired one c.args.who c.args.verb c.args.port c.args.value c.command-reply.result c.command-reply.ensures.step c.note_clash.ensures)
