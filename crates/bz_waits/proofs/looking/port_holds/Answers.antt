use Rattle.std.proofs.Common.{refl}
use Rattle.bz_model.specs.Nets.{chan_at}
use Rattle.bz_waits.specs.Stuck.{is_member}
use Rattle.bz_waits.proofs.Holding.{all_at, port_kept, port_rests}
use Rattle.bz_waits.proofs.looking.port_holds.Goals as goal

pub returns-in-None : goal.returns-in-None
returns-in-None c =
    let n = c.args.core.now in
    let none = rw c.in-None.is at c.due.ensures.due in (
      λ yes. port_rests n.wiring n.state (is_member c.args.members.now) c.args.comp c.args.port (λ steps. c.requires.still (c.args.port, steps)) (λ mv port has. none mv port has),
      λ holds. refl,
    )

pub returns-in-Some : goal.returns-in-Some
returns-in-Some c =
    let n = c.args.core.now in
    let due = rw c.in-Some.is at c.due.ensures.due in
    let chan = chan_at n.wiring.sites c.args.comp c.args.port in (
      λ yes. let kept = c.is_kept.ensures.0 yes in port_kept n.wiring n.state c.args.members.now c.args.comp c.args.port chan (λ steps. c.requires.still (c.args.port, steps)) refl kept.0 kept.1,
      λ holds. c.is_kept.ensures.1 (holds.inner _ due.0 due.1, all_at n.wiring n.state c.args.members.now c.args.comp c.args.port chan _ refl due.0 due.1 holds),
    )
