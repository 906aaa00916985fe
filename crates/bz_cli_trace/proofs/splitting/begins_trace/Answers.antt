use Rattle.bz_trace_text.specs.declared.text.Version.TheVariants.{One}
use Rattle.bz_cli_trace.proofs.Splits.{second_version}
use Rattle.bz_cli_trace.proofs.splitting.begins_trace.Goals as goal

pub returns-then-begins_with : goal.returns-then-begins_with
returns-then-begins_with c = (One, c.if-begins_with.ensures)

pub returns : goal.returns
returns c = second_version c.args.text.now c.begins_with-2.result c.if-begins_with.ensures c.begins_with-2.ensures
