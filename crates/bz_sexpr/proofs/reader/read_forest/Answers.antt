use Rattle.bz_sexpr.specs.Forms.{forest_view}
use Rattle.bz_sexpr.proofs.Verdict.{right_outcome, only_one}
use Rattle.bz_sexpr.proofs.Order.{answered_in_order}
use Rattle.bz_sexpr.proofs.reader.read_forest.Goals as goal

pub returns-clause-right : goal.returns-clause-right
returns-clause-right c = right_outcome forest_view c.args.text.now _ c.scan.ensures.ok c.scan.ensures.err

pub returns-clause-only : goal.returns-clause-only
returns-clause-only c = only_one c.args.text.now _ (right_outcome forest_view c.args.text.now _ c.scan.ensures.ok c.scan.ensures.err)

pub returns-clause-order : goal.returns-clause-order
returns-clause-order c = answered_in_order forest_view c.args.text.now _ c.scan.ensures.ok
