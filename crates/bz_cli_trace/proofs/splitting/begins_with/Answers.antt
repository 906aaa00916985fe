use Rattle.bz_cli_trace.proofs.Splits.{no_front, with_front}
use Rattle.bz_cli_trace.proofs.splitting.begins_with.Goals as goal

pub returns-in-Some : goal.returns-in-Some
returns-in-Some c = with_front c.args.words.now c.args.text.now c.in-Some.rest.now c.ends_line.result c.in-Some.ensures c.ends_line.ensures

pub returns-in-None : goal.returns-in-None
returns-in-None c = no_front c.args.words.now c.args.text.now c.in-None.ensures
