use Rattle.std.proofs.Common.{arith}
use Rattle.bz_trace.proofs.Accepted.{accepted}
use Rattle.bz_run_laws.specs.Embeddings.{entries_in, state_in}
use Rattle.bz_run_laws.proofs.Seeing.{few-in, run-in, who-in}
use Rattle.bz_run_laws.proofs.parts.traces_of_parts_are_accepted.Goals as goal

pub returns : goal.returns
returns c = λ part whole e es last text own wired is run by few trace.
    let fewer = few-in e es in
    accepted part (entries_in e es) (state_in e last) text (run-in part whole e own wired is es last run, who-in e es by) (omega (arith, few, fewer)) trace
