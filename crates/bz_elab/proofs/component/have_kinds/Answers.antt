use Rattle.bz_model.specs.declared.channel.Chan.{Chan}
use Rattle.bz_elab.proofs.Slots.{agree_at}
use Rattle.bz_elab.proofs.component.have_kinds.Goals as goal

pub returns-then-not-is_same : goal.returns-then-not-is_same
returns-then-not-is_same c =
    (λ h. cc, λ same. let alike = c.is_same.ensures.1 (agree_at (λ (x : Chan). x.kind) c.args.chans.now c.args.asked.now c.loop-i.i _ same) in cc)
