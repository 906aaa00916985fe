use Rattle.bz_model.specs.declared.channel.Move.TheVariants.{Take}
use Rattle.bz_waits.proofs.Passed.{two_found}
use Rattle.bz_waits.proofs.due.has_two_due.Goals as goal

pub returns-in-Some : goal.returns-in-Some
returns-in-Some c =
    let n = c.args.core.now in
    two_found n.wiring.sites n.state c.args.comp Take c.in-Some.first c.next_due-in-Some.result c.is_some.result c.in-Some.ensures c.next_due-in-Some.ensures c.is_some.ensures

pub returns-in-None : goal.returns-in-None
returns-in-None c = λ (p, q, lt, due, due'). c.in-None.ensures p due.0.port_from due
