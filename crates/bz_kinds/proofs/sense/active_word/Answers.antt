use Rattle.bz_kinds.specs.Kept.{plan_of}
use Rattle.bz_kinds.proofs.ReadyLaws.{turned_over}
use Rattle.bz_kinds.proofs.sense.active_word.Goals as goal

pub returns : goal.returns
returns c = turned_over (plan_of c.args.plan.now) c.args.size c.args.at c.passive_word.result c.passive_word.type_inv c.passive_word.ensures
