use Rattle.std.proofs.Common.{subst}
use Rattle.bz_net.specs.declared.event.RestReply.{RestReply}
use Rattle.bz_net.specs.Progress.{EntersRest}
use Rattle.bz_trace.proofs.Stopping.{no_rest, rest_refused, rested}
use Rattle.bz_trace.proofs.following.follow_rest.Goals as goal

pub returns-in-Ok-Rest : goal.returns-in-Ok-Rest
returns-in-Ok-Rest c =
    let new = c.rest.new.self in
    rested c.args.net.now new c.args.who (subst (λ (r : RestReply). EntersRest c.args.net.now new c.args.who r) c.in-Ok-Rest.field-0-is c.in-Ok-Rest.ensures.ok)

pub returns-in-Ok-Ready : goal.returns-in-Ok-Ready
returns-in-Ok-Ready c =
    let ready = rw c.in-Ok-Ready.field-0-is at c.in-Ok-Ready.ensures.ok in
    (no_rest c.args.net.now c.args.who c.in-Ok-Ready.field-0-0 ready.0.is_in, ready.1)

pub returns-in-Err : goal.returns-in-Err
returns-in-Err c = (rest_refused c.args.net.now c.args.who c.in-Err.field-0 c.requires c.in-Err.ensures.cause, c.in-Err.ensures.err)
