use Rattle.bz_sexpr.specs.Views.{data_in}
use Rattle.bz_sexpr.proofs.Verdict.{right_outcome, only_one}
use Rattle.bz_sexpr.proofs.Order.{answered_in_order}
use Rattle.bz_sexpr.proofs.tree.read.Goals as goal

pub returns-clause-right : goal.returns-clause-right
returns-clause-right c = right_outcome data_in c.args.text.now _ c.read_tree.ensures.ok c.read_tree.ensures.err

pub returns-clause-only : goal.returns-clause-only
returns-clause-only c = only_one c.args.text.now _ (right_outcome data_in c.args.text.now _ c.read_tree.ensures.ok c.read_tree.ensures.err)

pub returns-clause-order : goal.returns-clause-order
returns-clause-order c = answered_in_order data_in c.args.text.now _ c.read_tree.ensures.ok
