use Rattle.bz_cli_several.specs.Holding.{asked_of}
use Rattle.bz_cli_several.proofs.Told.{judged_one, unread_one}
use Rattle.bz_cli_several.proofs.several.check_from.Goals as goal

pub returns-in-Ok-clause-checks : goal.returns-in-Ok-clause-checks
returns-in-Ok-clause-checks g c =
    let told = c.tell_judged in
    judged_one (asked_of c.args.judge.now) (g.T.Read.remaining c.args.trace) c.args.name.now c.args.judge.now.json _ _ c.in-Ok.judged told.result c.in-Ok.ensures.found told.ensures.fate told.ensures.told told.ensures.plainly told.ensures.late

pub returns-in-Err-Read-clause-checks : goal.returns-in-Err-Read-clause-checks
returns-in-Err-Read-clause-checks g c =
    let told = c.tell_unread in
    unread_one (asked_of c.args.judge.now) (g.T.Read.remaining c.args.trace) c.args.name.now c.args.judge.now.json _ _ told.result c.unread.result c.unread.ensures told.ensures.plainly told.ensures.late
