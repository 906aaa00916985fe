use Rattle.std.proofs.Common.{◌≡◌, ◌-◌, map, set, true, false, refl, sym, subst}
use Rattle.bz_flat.specs.Flats.{site_of}
use Rattle.bz_flat.specs.Wires.{ends_in}
use Rattle.bz_model.specs.declared.channel.Phase.{Phase}
use Rattle.bz_model.specs.Hosts.{host_after}
use Rattle.bz_net.specs.Keeping.{phase_in}
use Rattle.bz_net.specs.Told.{Retold, Sighted}
use Rattle.bz_net.proofs.Stands.{in_range}
use Rattle.bz_net.proofs.Telling.{has_bit}
use Rattle.bz_net.specs.Nodes.{comps_of, heres_of}
use Rattle.bz_net.proofs.here.command.Goals as goal

pub retell-requires-clause-active : goal.retell-requires-clause-active
retell-requires-clause-active c =
    has_bit (map site_of c.args.sites.now) c.args.phases.now (comps_of c.args.nodes.now) (heres_of c.args.nodes.now) c.args.port (ends_in c.args.ends.now c.args.port) c.requires.sighted
    (c.requires.are_ends c.args.port c.requires.from) false _ refl

pub retell-requires-clause-passive : goal.retell-requires-clause-passive
retell-requires-clause-passive c =
    has_bit (map site_of c.args.sites.now) c.args.phases.now (comps_of c.args.nodes.now) (heres_of c.args.nodes.now) c.args.port (ends_in c.args.ends.now c.args.port) c.requires.sighted
    (c.requires.are_ends c.args.port c.requires.from) true _ refl

pub refresh_ends-requires-clause-active : goal.refresh_ends-requires-clause-active
refresh_ends-requires-clause-active c = in_range c.args.sites.now c.args.ends.now c.args.port false _ c.requires.stands refl

pub refresh_ends-requires-clause-passive : goal.refresh_ends-requires-clause-passive
refresh_ends-requires-clause-passive c = in_range c.args.sites.now c.args.ends.now c.args.port true _ c.requires.stands refl

pub refresh_ends-requires-clause-sighted : goal.refresh_ends-requires-clause-sighted
refresh_ends-requires-clause-sighted c =
    let sites = map site_of c.args.sites.now in
    let is : c.reply_to-reply.result.1 ≡ host_after c.args.verb c.args.value (phase_in c.args.phases.now c.args.port) = rw c.get-phase.ensures at c.reply_to-reply.ensures.after in
    rw (c.put.ensures, c.retell.ensures.comps)
    (subst (λ (f : Phase). Sighted sites (set c.args.phases.now (c.args.port - 1) f) (comps_of c.args.nodes.now) (heres_of c.retell.new.nodes)) (sym is)
    (c.requires.stays (heres_of c.retell.new.nodes) (subst (λ (f : Phase). Retold sites (heres_of c.args.nodes.now) (heres_of c.retell.new.nodes) c.args.port f) is c.retell.ensures.told)))

pub returns-clause-told : goal.returns-clause-told
returns-clause-told c =
    let is : c.reply_to-reply.result.1 ≡ host_after c.args.verb c.args.value (phase_in c.args.phases.now c.args.port) = rw c.get-phase.ensures at c.reply_to-reply.ensures.after in
    subst (λ (f : Phase). Retold (map site_of c.args.sites.now) (heres_of c.args.nodes.now) (heres_of c.retell.new.nodes) c.args.port f) is c.retell.ensures.told
