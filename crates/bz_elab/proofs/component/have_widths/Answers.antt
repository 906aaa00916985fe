use Rattle.bz_model.specs.declared.channel.Chan.{Chan}
use Rattle.bz_elab.proofs.Slots.{agree_at}
use Rattle.bz_elab.proofs.component.have_widths.Goals as goal

pub returns-then-chan-asked : goal.returns-then-chan-asked
returns-then-chan-asked c =
    (λ h. cc, λ same. absurd (c.if-chan-asked.true (agree_at (λ (x : Chan). x.width) c.args.chans.now c.args.asked.now c.loop-i.i _ same)))
