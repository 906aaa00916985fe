use Rattle.std.proofs.Common.{codes}
use Rattle.bz_trace_text.proofs.Strips.{strip_takes}
use Rattle.bz_trace_text.proofs.Texts.{no_version}
use Rattle.bz_trace_text.proofs.text.version_at.Goals as goal

pub returns-in-Some : goal.returns-in-Some
returns-in-Some c = strip_takes (codes "trace 1\n") c.args.text.now c.in-Some.rest.now c.in-Some.ensures

pub returns-in-Some-strip : goal.returns-in-Some-strip
returns-in-Some-strip c = strip_takes (codes "trace 2\n") c.args.text.now c.in-Some-strip.rest.now c.in-Some-strip.ensures

pub returns : goal.returns
returns c = no_version c.args.text.now c.in_default.ensures c.in_default-strip.ensures
