use Rattle.std.proofs.Common.{◌≡◌, subst, arith}
use Rattle.bz_kinds.specs.declared.ports.PortState.TheVariants.{ClosedDue, OpenDue}
use Rattle.bz_kinds.specs.Ports.{state_at}
use Rattle.bz_kinds.proofs.SignalledLaws.{taken, signalled, opened, closed}
use Rattle.bz_kinds.proofs.signalled.fire.Goals as goal

pub returns-in-1-true-clause-steps : goal.returns-in-1-true-clause-steps
returns-in-1-true-clause-steps c =
    rw (c.set-in-1-true.ensures, c.set.ensures, c.in-1-true.is-0)
    (taken _ _ c.requires.place (subst (λ p. state_at c.args.ports.now p ≡ ClosedDue) c.in-1-true.is-0 c.in-1-true.ensures))

pub returns-in-1-false-clause-steps : goal.returns-in-1-false-clause-steps
returns-in-1-false-clause-steps c =
    rw (c.set-in-1-false.ensures, c.in-1-false.is-0)
    (closed _ _ c.requires.place 1 (omega arith) (subst (λ p. state_at c.args.ports.now p ≡ OpenDue) c.in-1-false.is-0 c.in-1-false.ensures))

pub returns-in-2-true-clause-steps : goal.returns-in-2-true-clause-steps
returns-in-2-true-clause-steps c =
    rw (c.set-in-2-true.ensures, c.in-2-true.is-0)
    (opened _ _ c.requires.place 2 (omega arith) (subst (λ p. state_at c.args.ports.now p ≡ ClosedDue) c.in-2-true.is-0 c.in-2-true.ensures))

pub returns-in-2-false-clause-steps : goal.returns-in-2-false-clause-steps
returns-in-2-false-clause-steps c =
    rw (c.set-in-2-false-2.ensures, c.set-in-2-false.ensures, c.in-2-false.is-0)
    (signalled _ _ c.requires.place (subst (λ p. state_at c.args.ports.now p ≡ OpenDue) c.in-2-false.is-0 c.in-2-false.ensures))

pub returns-in_default-true-clause-steps : goal.returns-in_default-true-clause-steps
returns-in_default-true-clause-steps c = rw c.set-in_default-true.ensures (opened _ _ c.requires.place c.args.port c.in_default-true.is-0.0.1 c.in_default-true.ensures)

pub returns-in_default-false-clause-steps : goal.returns-in_default-false-clause-steps
returns-in_default-false-clause-steps c = rw c.set-in_default-false.ensures (closed _ _ c.requires.place c.args.port c.in_default-false.is-0.1 c.in_default-false.ensures)
