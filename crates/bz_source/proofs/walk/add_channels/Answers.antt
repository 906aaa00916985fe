use Rattle.std.proofs.Common.{arith, ap}
use Rattle.bz_source.specs.Found.{channel}
use Rattle.bz_source.proofs.Walking.{channels_more}
use Rattle.bz_source.proofs.walk.add_channels.Goals as goal

pub loop-position-preserved : goal.loop-position-preserved
loop-position-preserved c = (
  λ h. absurd (omega (arith, h, c.loop-position-test.true, c.loop-position.auto.position)),
  channels_more c.args.finds.now.items c.loop-position.finds.items c.push.new.self.items c.args.part c.args.path.now c.args.ports c.loop-position.position _
      (omega (arith, c.loop-position.auto.position)) (ap channel c.in_ok-place_at.ensures) c.loop-position.invariant.1 c.in_ok-push.ensures.items,
)
