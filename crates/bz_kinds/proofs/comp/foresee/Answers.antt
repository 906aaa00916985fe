use Rattle.std.proofs.Common.{◌≡◌, ◌∙◌, IsTrue, sym, subst}
use Rattle.bz_model.specs.Phases.{allows}
use Rattle.bz_kinds.specs.Row.{Due, seen}
use Rattle.bz_kinds.proofs.Foreseeing.{foreseen, unforeseen}
use Rattle.bz_kinds.proofs.PlanLaws.{due-narrow, found-due, none-found, one-head-on}
use Rattle.bz_kinds.proofs.RidingLaws.{came}
use Rattle.bz_kinds.proofs.comp.foresee.Goals as goal

pub returns-in_default-clause-moves : goal.returns-in_default-clause-moves
returns-in_default-clause-moves c =
    unforeseen _ _ _ _ _ _ _ c.comp.view_is c.comp.invariant.0 c.args.port c.args.phase
    (λ d e may. none-found _ _ _ c.args.port _ _ c.due_at.result d c.due_at.ensures c.in_default.is c.get.ensures e)

pub returns-in_default-clause-one : goal.returns-in_default-clause-one
returns-in_default-clause-one c = one-head-on _ _ _ _ _ _ _ c.comp.view_is c.comp.invariant.0

pub returns-then-not-allows-clause-moves : goal.returns-then-not-allows-clause-moves
returns-then-not-allows-clause-moves c =
    unforeseen _ _ _ _ _ _ _ c.comp.view_is c.comp.invariant.0 c.args.port c.args.phase
    (λ d e may.
    let here = found-due _ _ _ c.args.port _ _ c.due_at.result c.in-Some.due c.due_at.ensures c.in-Some.is c.get.ensures in
    let same : seen c.in-Some.due ≡ d = cc in
    let allowed = c.allows.ensures.1 (subst (λ (d : Due). IsTrue (allows c.args.phase d.mv)) (sym same) may) in
    let not = c.if-not-allows.true in cc)

pub returns-then-not-allows-clause-one : goal.returns-then-not-allows-clause-one
returns-then-not-allows-clause-one c = one-head-on _ _ _ _ _ _ _ c.comp.view_is c.comp.invariant.0

pub carried-requires : goal.carried-requires
carried-requires c =
    let (at, small, (bits, sends)) = c.comp.invariant in
    due-narrow _ _ _ _ _ _ bits at sends c.args.port (seen c.in-Some.due)
    (found-due _ _ _ c.args.port _ _ c.due_at.result c.in-Some.due c.due_at.ensures c.in-Some.is c.get.ensures)

pub returns-clause-moves : goal.returns-clause-moves
returns-clause-moves c =
    let may = c.allows.ensures.0 c.if-not-allows.false in
    foreseen _ _ _ _ _ _ _ c.comp.view_is c.comp.invariant.0 c.args.port c.args.phase (seen c.in-Some.due) _ _
    (found-due _ _ _ c.args.port _ _ c.due_at.result c.in-Some.due c.due_at.ensures c.in-Some.is c.get.ensures) may
    (c.taken-incoming.ensures ∙ came c.args.phase c.riding.result c.in-Some.due.mv c.riding.ensures may) (rw c.get-2.ensures at c.carried.ensures)

pub returns-clause-one : goal.returns-clause-one
returns-clause-one c = one-head-on _ _ _ _ _ _ _ c.comp.view_is c.comp.invariant.0
