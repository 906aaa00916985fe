use Rattle.std.proofs.Common.{refl, sym}
use Rattle.bz_cli_several.specs.Holding.{asked_of}
use Rattle.bz_cli_several.proofs.Joins.{stop_told, unread_piece}
use Rattle.bz_cli_several.proofs.Told.{no_run_is, run_is}
use Rattle.bz_cli_several.proofs.joining.check_piece.Goals as goal

pub returns-then-is_run : goal.returns-then-is_run
returns-then-is_run g c = λ past behind.
    let found = rw (c.way_of-way.ensures.first, c.way_of-way.ensures.rest) at (c.in-Ok.ensures.found past behind) in
    (run_is c.in-Ok.piece.found.verdict (sym c.if-is_run.ensures), found, c.in-Ok.ensures.wiring, c.in-Ok.ensures.stands, refl)

pub returns-in-Ok : goal.returns-in-Ok
returns-in-Ok g c = λ past behind.
    let found = rw (c.way_of-way.ensures.first, c.way_of-way.ensures.rest) at (c.in-Ok.ensures.found past behind) in
    let told = c.tell_stop in
    stop_told (asked_of c.args.judge.now) c.args.judge.now.json _ _ c.args.joined.wiring past (g.T.Read.remaining c.args.trace) c.args.name.now c.args.is_last c.in-Ok.piece.net c.in-Ok.piece.found told.result
    found (no_run_is c.in-Ok.piece.found.verdict (sym c.if-is_run.ensures)) told.ensures.ends told.ensures.told told.ensures.plainly told.ensures.late

pub returns-in-Err-Read : goal.returns-in-Err-Read
returns-in-Err-Read g c = λ past behind.
    let told = c.tell_unread in
    unread_piece (asked_of c.args.judge.now) c.args.judge.now.json _ _ c.args.joined.wiring past (g.T.Read.remaining c.args.trace) c.args.name.now c.args.is_last told.result c.unread.result c.unread.ensures told.ensures.plainly told.ensures.late
