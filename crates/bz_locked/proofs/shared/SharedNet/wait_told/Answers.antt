use Rattle.std.proofs.Common.{◌∙◌, refl}
use Rattle.bz_past.proofs.Leading.{here, onward}
use Rattle.bz_locked.proofs.Making.{none_none}
use Rattle.bz_locked.proofs.Seeing.{during_back}
use Rattle.bz_locked.proofs.shared.SharedNet.wait_told.Goals as goal

pub loop-preserved : goal.loop-preserved
loop-preserved g c =
    let inv = c.loop.invariant in
    let then = c.work.ensures in
    (tt, tt, then.owner.0 ∙ inv.2, then.owner.1 ∙ inv.3, onward _ _ _ inv.4 then.owner.2, none_none c.args.who _ _ _ inv.5 then.made)

pub returns-in-Some-work-clause-owner : goal.returns-in-Some-work-clause-owner
returns-in-Some-work-clause-owner g c =
    let inv = c.loop.invariant in
    let then = c.work.ensures in
    (then.owner.0 ∙ inv.2, then.owner.1 ∙ inv.3, onward _ _ _ inv.4 then.owner.2)

pub returns-in-Some-work-clause-made : goal.returns-in-Some-work-clause-made
returns-in-Some-work-clause-made g c = none_none c.args.who _ _ _ c.loop.invariant.5 c.work.ensures.made

pub returns-in-Some-work-clause-told : goal.returns-in-Some-work-clause-told
returns-in-Some-work-clause-told g c = during_back g.L.NetLedger.terms _ _ _ _ c.loop.invariant.4 c.in-Some-work.ensures.told

pub loop-init : goal.loop-init
loop-init g c = (tt, tt, refl, refl, here c.args.owner.now.seen, record { own = refl; last = refl })
