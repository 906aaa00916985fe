use Rattle.bz_complete.proofs.Refusals.{dead_ends, refuted}
use Rattle.bz_complete.proofs.completing.complete.Goals as goal

pub returns-in-Ok-play-clause-dead : goal.returns-in-Ok-play-clause-dead
returns-in-Ok-play-clause-dead c = dead_ends c.play.new.net c.args.moves.now c.in-Ok-play.stop c.in-Ok-play.ensures.stop

pub returns-in-Ok-play-clause-refuted : goal.returns-in-Ok-play-clause-refuted
returns-in-Ok-play-clause-refuted c =
    refuted c.args.flat.wiring c.in_ok-net.net c.play.new.net c.args.moves.now c.in-Ok-play.stop c.in_ok-net.ensures.ok c.in-Ok-play.ensures.gains c.in-Ok-play.ensures.stop
