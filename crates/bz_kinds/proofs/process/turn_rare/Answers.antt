use Rattle.std.proofs.Common.{sym, ap, ◌∙◌}
use Rattle.bz_kinds.specs.declared.row.Row.{Row}
use Rattle.bz_kinds.specs.declared.row.Plan.TheVariants.{Once}
use Rattle.bz_kinds.specs.Kept.{plan_of}
use Rattle.bz_kinds.proofs.PlanLaws.{due-of}
use Rattle.bz_kinds.proofs.process.turn_rare.Goals as goal

pub returns-in-Once-clause-made : goal.returns-in-Once-clause-made
returns-in-Once-clause-made c d e =
    c.fire.ensures.made d (due-of _ _ (ap plan_of c.in-Once.is ∙ ap (λ (row : Row). Once row) (sym c.get.ensures)) c.args.proc.now.size c.args.proc.now.left c.args.port _ d e)

pub returns-in-Select-clause-made : goal.returns-in-Select-clause-made
returns-in-Select-clause-made c d e = c.fire-in-Select.ensures.made d (due-of _ _ (ap plan_of c.in-Select.is) c.args.proc.now.size c.args.proc.now.left c.args.port _ d e)

pub returns-in-Indexed-clause-made : goal.returns-in-Indexed-clause-made
returns-in-Indexed-clause-made c d e = c.fire-in-Indexed.ensures.made d (due-of _ _ (ap plan_of c.in-Indexed.is) c.args.proc.now.size c.args.proc.now.left c.args.port _ d e)

pub returns-in-Signalled-clause-made : goal.returns-in-Signalled-clause-made
returns-in-Signalled-clause-made c d e = c.fire-in-Signalled.ensures.made d (due-of _ _ (ap plan_of c.in-Signalled.is) c.args.proc.now.size c.args.proc.now.left c.args.port _ d e)

pub returns-in-Decision-clause-made : goal.returns-in-Decision-clause-made
returns-in-Decision-clause-made c d e = c.fire-in-Decision.ensures.made d (due-of _ _ (ap plan_of c.in-Decision.is) c.args.proc.now.size c.args.proc.now.left c.args.port _ d e)

pub returns-in-Bar-clause-made : goal.returns-in-Bar-clause-made
returns-in-Bar-clause-made c d e = c.fire-in-Bar.ensures.made d (due-of _ _ (ap plan_of c.in-Bar.is) c.args.proc.now.size c.args.proc.now.left c.args.port _ d e)
