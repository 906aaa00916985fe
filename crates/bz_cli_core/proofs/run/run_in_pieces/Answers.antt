use Rattle.std.proofs.Common.{arith}
use Rattle.std.specs.Option.{option_copied}
use Rattle.bz_words.specs.Words.{texts}
use Rattle.bz_cli_core.proofs.Outcomes.{runs_on}
use Rattle.bz_cli_core.proofs.run.run_in_pieces.Goals as goal

pub returns-clause-runs : goal.returns-clause-runs
returns-clause-runs g c =
    let plays = rw c.as_slice.ensures.value at c.run_text.ensures in
    runs_on _ c.in_ok-text.text.items (texts c.args.words.now) (option_copied c.args.asked) c.args.journal c.args.strict c.in_ok-cmds.cmds.items _ _ _ c.in_ok-text.ensures.whole (omega (arith, c.in_ok-text.text.ok.0, c.in_ok-text.ensures.limit)) c.in_ok-cmds.ensures.ok plays
