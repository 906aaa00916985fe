use Rattle.bz_model.specs.Traces.{trace_text}
use Rattle.bz_complete.proofs.Completed.{whole_of}
use Rattle.bz_complete.proofs.command.put_net.Goals as goal

pub returns-in-Ok-clause-ok : goal.returns-in-Ok-clause-ok
returns-in-Ok-clause-ok g c =
    let net = c.args.net.now in let comps = c.clashes.result.now in (
      trace_text net.wiring.ports net.journal comps,
      rw (c.names.ensures.value, c.journal.ensures.entries) at c.in-Ok.ensures.ok,
      λ w moves made. whole_of w moves net comps c.journal.ensures.run c.journal.ensures.within c.clashes.ensures made,
    )

pub returns-in-Err-clause-err : goal.returns-in-Err-clause-err
returns-in-Err-clause-err g c =
    let net = c.args.net.now in let comps = c.clashes.result.now in (
      trace_text net.wiring.ports net.journal comps,
      rw (c.names.ensures.value, c.journal.ensures.entries) at c.in-Err.ensures.err,
      λ w moves made. whole_of w moves net comps c.journal.ensures.run c.journal.ensures.within c.clashes.ensures made,
    )
