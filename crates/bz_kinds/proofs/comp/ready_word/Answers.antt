use Rattle.std.proofs.Common.{sym, refl}
use Rattle.bz_kinds.specs.Ready.{IsActive}
use Rattle.bz_kinds.specs.Kept.{plan_of}
use Rattle.bz_kinds.proofs.ReadyLaws.{ready_at, none_due, as_is, at_ports, opens_closed}
use Rattle.bz_kinds.proofs.comp.ready_word.Goals as goal
use Rattle.bz_kinds.proofs.comp.ready_word.Goals.{then-at-eq0, else-at-eq0+else-word-eq0}

pub returns-clause-ready : goal.returns-clause-ready
returns-clause-ready c =
    let known : IsActive (plan_of c.comp.inside.proc.plan) c.comp.inside.proc.size c.args.at c.if-at-eq0.active =
    elim c.if-at-eq0.branch [
      | then-at-eq0 w ↦ as_is _ _ 0 c.args.at c.comp.inside.proc.active c.if-at-eq0.active (sym w.if-at-eq0.true) (sym w.active-is) c.comp.invariant.1.1
      | else-at-eq0+else-word-eq0 w ↦ as_is _ _ c.args.at c.args.at w.active_word.result c.if-at-eq0.active refl (sym w.active-is) w.active_word.ensures
    ] in
    ready_at _ _ _ _ _ _ _ c.comp.view_is c.comp.invariant.0 c.args.at c.if-at-eq0.active c.args.here c.ready.result c.word-word.result known c.word-word.ensures c.ready.ensures

pub returns-then-word-eq0-clause-ready : goal.returns-then-word-eq0-clause-ready
returns-then-word-eq0-clause-ready c = none_due _ _ _ _ _ _ _ c.comp.view_is c.comp.invariant.0 c.args.at c.args.here c.word-word.result c.if-word-eq0.true c.word-word.ensures

pub returns-then-word-eq0-clause-held : goal.returns-then-word-eq0-clause-held
returns-then-word-eq0-clause-held c = at_ports _ _ _ _ _ _ _ c.comp.view_is c.comp.invariant.0 c.comp.invariant.1.2

pub returns-then-word-eq0-clause-turns : goal.returns-then-word-eq0-clause-turns
returns-then-word-eq0-clause-turns c = opens_closed _ _ _ _ _ _ _ c.comp.view_is c.comp.invariant.0 c.comp.invariant.1.2

pub returns-clause-held : goal.returns-clause-held
returns-clause-held c = at_ports _ _ _ _ _ _ _ c.comp.view_is c.comp.invariant.0 c.comp.invariant.1.2

pub returns-clause-turns : goal.returns-clause-turns
returns-clause-turns c = opens_closed _ _ _ _ _ _ _ c.comp.view_is c.comp.invariant.0 c.comp.invariant.1.2
