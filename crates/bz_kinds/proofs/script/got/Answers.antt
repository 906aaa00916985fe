use Rattle.std.proofs.Common.{◌≡◌}
use Rattle.bz_kinds.specs.Ports.{state_at}
use Rattle.bz_kinds.specs.declared.ports.PortState.TheVariants.{OpenDue}
use Rattle.bz_kinds.specs.Sense.{script_sense}
use Rattle.bz_kinds.proofs.OnwardLaws.{gets-at}
use Rattle.bz_kinds.proofs.ScriptOnward.{called-again, came-back, went-on}
use Rattle.bz_kinds.proofs.script.got.Goals as goal

pub returns-in-Loop-default-clause-sure : goal.returns-in-Loop-default-clause-sure
returns-in-Loop-default-clause-sure c = rw c.close.ensures (called-again c.args.script _ _ c.requires.place c.in-Loop-default.is-0)

pub returns-then-eq-clause-sure : goal.returns-then-eq-clause-sure
returns-then-eq-clause-sure c =
    let due = (gets-at (script_sense c.args.port) _ c.requires.due).1 in
    let two : state_at c.args.ports.now 2 ≡ OpenDue = rw (← c.in_default-eq2.is-1) due in
    rw c.go_on.ensures (went-on c.args.script _ _ c.requires.place c.in_default-eq2.not-Loop-0 two)

pub returns-in_default-clause-sure : goal.returns-in_default-clause-sure
returns-in_default-clause-sure c = rw c.go_on-in_default.ensures (came-back c.args.script _ _ c.requires.place c.args.port c.in_default.not-Loop-0 c.in_default.is-1.1 c.requires.due)
