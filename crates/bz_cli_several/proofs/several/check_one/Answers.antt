use Rattle.bz_cli_several.specs.Holding.{asked_of}
use Rattle.bz_cli_several.proofs.Told.{unread_one}
use Rattle.bz_cli_several.proofs.several.check_one.Goals as goal

pub returns-in-Err-clause-checks : goal.returns-in-Err-clause-checks
returns-in-Err-clause-checks g c =
    let told = c.tell_unread in
    unread_one (asked_of c.args.judge.now) (g.X.Traces.text c.args.traces.now c.args.name.now) c.args.name.now c.args.judge.now.json _ _ told.result c.unread.result c.unread.ensures told.ensures.plainly told.ensures.late
