use Rattle.bz_net.proofs.Hints.{waits_still}
use Rattle.bz_net.proofs.node_moves.ReplyingNodeMove.make.Goals as goal

pub returns-else-not-waits-clause-goes : goal.returns-else-not-waits-clause-goes
returns-else-not-waits-clause-goes c = waits_still c.reply-carried.new.comp _ c.args.port _ c.if-not-waits.false c.reply-carried.ensures.waits c.requires.told
