use Rattle.std.proofs.Common.{◌≡◌, false, true, rules}
use Rattle.std.specs.Option.{option_copied}
use Rattle.bz_cli_trace.specs.Judging.{is_run}
use Rattle.bz_cli_commands.proofs.Made.{case_whole, no_run_made, not_judged, run_is}
use Rattle.bz_cli_commands.proofs.makers.make_on.Goals as goal

pub returns-in-Err : goal.returns-in-Err
returns-in-Err g c =
    rw c.of-in-Err.ensures (not_judged c.args.maker c.args.given.now.sources.now (option_copied c.args.given.now.part) c.args.texts.now.netlist c.args.texts.now.trace _ c.in-Err.fault (rw c.both.ensures.netlist at c.in-Err.ensures.err))

pub returns-then-not-is_run : goal.returns-then-not-is_run
returns-then-not-is_run g c =
    let none : is_run c.in-Ok.case.judged.found.verdict ≡ false = search rules in
    let is = case_whole c.whole-way.result.to_first c.whole-way.result.to_rest _ _ _ _ c.whole-way.ensures.first c.whole-way.ensures.rest c.in-Ok.ensures.ok in
    no_run_made c.args.maker c.args.given.now.sources.now (option_copied c.args.given.now.part) c.args.texts.now.netlist c.args.texts.now.trace _ c.in-Ok.case _ (rw (c.both.ensures.netlist, c.both.ensures.trace) at is) none c.no_run.ensures

pub made-requires-clause-few : goal.made-requires-clause-few
made-requires-clause-few g c = rw c.both.ensures.trace c.both.ensures.few

pub made-requires-clause-found : goal.made-requires-clause-found
made-requires-clause-found g c =
    (case_whole c.whole-way.result.to_first c.whole-way.result.to_rest _ _ _ _ c.whole-way.ensures.first c.whole-way.ensures.rest c.in-Ok.ensures.ok).found

pub made-requires-clause-run : goal.made-requires-clause-run
made-requires-clause-run g c =
    let so : is_run c.in-Ok.case.judged.found.verdict ≡ true = search rules in
    run_is c.in-Ok.case.judged.found.verdict so

pub made-requires-clause-shows : goal.made-requires-clause-shows
made-requires-clause-shows g c =
    let so : is_run c.in-Ok.case.judged.found.verdict ≡ true = search rules in
    c.in-Ok.ensures.watches (run_is c.in-Ok.case.judged.found.verdict so)

pub returns : goal.returns
returns g c =
    let so : is_run c.in-Ok.case.judged.found.verdict ≡ true = search rules in
    let is = case_whole c.whole-way.result.to_first c.whole-way.result.to_rest _ _ _ _ c.whole-way.ensures.first c.whole-way.ensures.rest c.in-Ok.ensures.ok in
    rw c.of-2.ensures (rw (c.both.ensures.netlist, c.both.ensures.trace) at (c.made.ensures _ _ is (run_is c.in-Ok.case.judged.found.verdict so)))
