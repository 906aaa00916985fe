use Rattle.std.proofs.Common.{ap}
use Rattle.bz_kinds.specs.Kept.{plan_of}
use Rattle.bz_kinds.specs.declared.row.Plan.TheVariants.{Signalled}
use Rattle.bz_kinds.proofs.ReadyLaws.{sensed_as}
use Rattle.bz_kinds.proofs.sense.passive_word.Goals as goal

pub returns-in-Signalled : goal.returns-in-Signalled
returns-in-Signalled c = sensed_as (plan_of c.args.plan.now) Signalled c.args.size c.args.at c.all_but_two.result (ap plan_of c.in-Signalled.is) (c.all_but_two.ensures c.args.size)
