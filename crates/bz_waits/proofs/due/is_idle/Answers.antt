use Rattle.std.proofs.Common.{sym, ◌∙◌}
use Rattle.bz_model.specs.declared.channel.Move.TheVariants.{Got}
use Rattle.bz_waits.specs.Waiting.{IsDue}
use Rattle.bz_waits.proofs.Passed.{idle_found, none_found, some_found}
use Rattle.bz_waits.proofs.due.is_idle.Goals as goal

pub returns-then-is_ready : goal.returns-then-is_ready
returns-then-is_ready c = λ idle. idle.stuck c.if-is_ready.ensures

pub returns-then-is_some : goal.returns-then-is_some
returns-then-is_some c =
    let n = c.args.core.now in
    let got = some_found (IsDue n.wiring.sites n.state c.args.comp Got) 0 c.next_due.result c.next_due.ensures (sym c.is_some.ensures ∙ c.if-is_some.true) in
    λ idle. idle.gets got.0 got.1

pub returns : goal.returns
returns c =
    let n = c.args.core.now in
    let gets = none_found (IsDue n.wiring.sites n.state c.args.comp Got) c.next_due.result c.next_due.ensures (sym c.is_some.ensures ∙ c.if-is_some.false) (λ p due. due.0.port_from) in
    idle_found n.wiring.sites n.state c.args.comp c.owed_chan.result c.is_none.result c.if-is_ready.ensures gets c.owed_chan.ensures c.is_none.ensures
