use Rattle.bz_cli_several.specs.Holding.{asked_of}
use Rattle.bz_cli_several.proofs.Joins.{unread_piece}
use Rattle.bz_cli_several.proofs.joining.check_next.Goals as goal

pub returns-in-Ok : goal.returns-in-Ok
returns-in-Ok g c = λ past behind. rw c.in-Ok.ensures at (c.check_piece.ensures past behind)

pub returns-in-Err : goal.returns-in-Err
returns-in-Err g c = λ past behind.
    let told = c.tell_unread in
    unread_piece (asked_of c.args.judge.now) c.args.judge.now.json _ _ c.args.joined.wiring past (g.X.Traces.text c.args.traces.now c.args.name.now) c.args.name.now c.args.is_last told.result c.unread.result c.unread.ensures told.ensures.plainly told.ensures.late
