use Rattle.std.proofs.Common.{sym, inr}
use Rattle.bz_trace_text.proofs.Texts.{clash_takes}
use Rattle.bz_trace.specs.Reading.{HasEnd}
use Rattle.bz_trace.proofs.Ends.{no_clash_on}
use Rattle.bz_trace.proofs.reading.is_other.Goals as goal

pub returns-in-None-clause-other : goal.returns-in-None-clause-other
returns-in-None-clause-other c is =
    let has : HasEnd c.args.rest.now = sym c.if-not-contains.ensures.value in
    (has, λ more. no_clash_on c.args.version c.args.rest.now more has c.in-None.ensures)

pub returns-in-Some-clause-none : goal.returns-in-Some-clause-none
returns-in-Some-clause-none c none = inr (c.in-Two.is, (c.in-Some.field-0.0, c.in-Some.field-0.1.now, (clash_takes c.in-Some.field-0.0 c.args.rest.now c.in-Some.field-0.1.now c.in-Some.ensures).0))
