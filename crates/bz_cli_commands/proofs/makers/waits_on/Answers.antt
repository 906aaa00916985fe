use Rattle.std.proofs.Common.{◌≡◌, false, true, rules}
use Rattle.std.specs.Option.{option_copied}
use Rattle.bz_cli_trace.specs.Judging.{is_run}
use Rattle.bz_cli_commands.proofs.Made.{found_whole, no_run_waits, not_waited, run_is, whole_judged, waits_made}
use Rattle.bz_cli_commands.proofs.makers.waits_on.Goals as goal

pub returns-in-Err : goal.returns-in-Err
returns-in-Err g c =
    rw c.of-in-Err.ensures (not_waited c.args.options (option_copied c.args.given.now.part) c.args.texts.now.netlist c.args.texts.now.trace _ c.in-Err.fault (rw c.both.ensures.netlist at c.in-Err.ensures.err))

pub returns-then-not-is_run : goal.returns-then-not-is_run
returns-then-not-is_run g c =
    let none : is_run c.in-Ok.played.judged.found.verdict ≡ false = search rules in
    let found = found_whole c.whole-way.result.to_first c.whole-way.result.to_rest _ _ _ c.whole-way.ensures.first c.whole-way.ensures.rest c.in-Ok.ensures.found in
    no_run_waits c.args.options (option_copied c.args.given.now.part) c.args.texts.now.netlist c.args.texts.now.trace _ c.in-Ok.played.judged _ (rw c.both.ensures.netlist at c.in-Ok.ensures.net) (rw c.both.ensures.trace at found) none (rw c.into_case.ensures at c.no_run.ensures)

pub told_of-told-requires-clause-found : goal.told_of-told-requires-clause-found
told_of-told-requires-clause-found g c =
    found_whole c.whole-way.result.to_first c.whole-way.result.to_rest _ _ _ c.whole-way.ensures.first c.whole-way.ensures.rest c.in-Ok.ensures.found

pub told_of-told-requires-clause-run : goal.told_of-told-requires-clause-run
told_of-told-requires-clause-run g c =
    let so : is_run c.in-Ok.played.judged.found.verdict ≡ true = search rules in
    run_is c.in-Ok.played.judged.found.verdict so

pub told_of-told-requires-clause-shows : goal.told_of-told-requires-clause-shows
told_of-told-requires-clause-shows g c =
    let so : is_run c.in-Ok.played.judged.found.verdict ≡ true = search rules in
    c.in-Ok.ensures.watches (run_is c.in-Ok.played.judged.found.verdict so)

pub returns : goal.returns
returns g c =
    let so : is_run c.in-Ok.played.judged.found.verdict ≡ true = search rules in
    let found = found_whole c.whole-way.result.to_first c.whole-way.result.to_rest _ _ _ c.whole-way.ensures.first c.whole-way.ensures.rest c.in-Ok.ensures.found in
    let judged = whole_judged c.args.texts.now.netlist c.args.texts.now.trace (option_copied c.args.given.now.part) c.in-Ok.played.judged (rw c.both.ensures.netlist at c.in-Ok.ensures.net) (rw c.both.ensures.trace at found) (run_is c.in-Ok.played.judged.found.verdict so) in
    rw c.of-2.ensures (waits_made c.args.texts.now.netlist c.args.texts.now.trace (option_copied c.args.given.now.part) _ _ c.in-Ok.played.judged.net.wiring judged c.args.options c.told_of-told.result _ (rw c.both.ensures.trace at c.told_of-told.ensures) c.waits_sent.ensures)
