use Rattle.bz_cli_waits.proofs.Ending.{ends_of}
use Rattle.bz_since.proofs.Kept.{kept_of}
use Rattle.bz_cli_commands.proofs.makers.told_of.Goals as goal

pub waits-requires-clause-ends : goal.waits-requires-clause-ends
waits-requires-clause-ends g c = ends_of _ c.args.trace.now c.args.played.judged c.requires.found c.requires.run

pub waits-requires-clause-behind : goal.waits-requires-clause-behind
waits-requires-clause-behind g c =
    kept_of _ c.args.trace.now c.place_of-line.result _ _ _ c.requires.found.wired c.requires.shows c.in-Ok.ensures.after c.in-Ok.ensures.kept

pub returns-in-Ok : goal.returns-in-Ok
returns-in-Ok g c = rw c.place_of-line.ensures at c.waits.ensures
