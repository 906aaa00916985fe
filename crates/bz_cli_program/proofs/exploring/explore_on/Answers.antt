use Rattle.std.proofs.Common.{◌≡◌, true, rules}
use Rattle.bz_cli_trace.specs.Judging.{is_run}
use Rattle.bz_cli_commands.proofs.Made.{case_whole, run_is}
use Rattle.bz_cli_program.proofs.Played.{is_played}
use Rattle.bz_cli_program.proofs.exploring.explore_on.Goals as goal

pub explore_behind-requires : goal.explore_behind-requires
explore_behind-requires g c =
    let so : is_run c.in-Ok.case.judged.found.verdict ≡ true = search rules in
    let run = run_is c.in-Ok.case.judged.found.verdict so in
    let is = case_whole c.whole-way.result.to_first c.whole-way.result.to_rest _ _ _ _ c.whole-way.ensures.first c.whole-way.ensures.rest c.in-Ok.ensures.ok in
    is_played _ c.in-Ok.case.judged _ _ is.found run (c.in-Ok.ensures.watches run) c.in-Ok-into_journal.ensures
