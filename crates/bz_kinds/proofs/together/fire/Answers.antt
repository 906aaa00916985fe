use Rattle.std.proofs.Common.{◌≡◌, ◌≢◌, ◌∙◌, ◌-◌, refl, ap, arith}
use Rattle.bz_model.specs.declared.expr.Expr.{Expr}
use Rattle.bz_model.specs.Terms.{value_of}
use Rattle.bz_kinds.specs.KeptLists.{slots_of}
use Rattle.bz_kinds.specs.Row.{leg_of}
use Rattle.bz_kinds.proofs.MadeLaws.{leg-asked, at-leg}
use Rattle.bz_kinds.proofs.RowLaws.{leg-port}
use Rattle.bz_kinds.proofs.TogetherSteps.{steps-at}
use Rattle.bz_kinds.proofs.together.fire.Goals as goal

pub returns-then-is_to_open-clause-steps : goal.returns-then-is_to_open-clause-steps
returns-then-is_to_open-clause-steps c =
    let one : c.args.port ≡ 1 = omega (arith, c.if-port-eq1.true) in
    steps-at c.args.row.now _ _ _ _ _ _ _ one (c.take.ensures.steps c.args.row.now)

pub returns-else-is_to_open-clause-steps : goal.returns-else-is_to_open-clause-steps
returns-else-is_to_open-clause-steps c =
    let one : c.args.port ≡ 1 = omega (arith, c.if-port-eq1.true) in
    steps-at c.args.row.now _ _ _ _ _ _ _ one (c.reply.ensures.steps c.args.row.now)

pub returns-then-is_to_open-2-clause-made : goal.returns-then-is_to_open-2-clause-made
returns-then-is_to_open-2-clause-made c d e =
    let row = c.args.row.now in
    let other : c.args.port ≢ 1 = omega (arith, c.if-port-eq1.false) in
    leg-asked (leg_of row.legs (c.args.port - 2)) d c.args.rides _ _ _ _ (at-leg row c.args.port _ d e other) c.if-is_to_open-2.ensures
    (c.worth-then-is_to_open-2.ensures ∙ ap (λ (it : Expr). value_of it (slots_of c.args.slots.now)) c.gives.ensures) refl

pub returns-then-is_to_open-2-clause-steps : goal.returns-then-is_to_open-2-clause-steps
returns-then-is_to_open-2-clause-steps c =
    let row = c.args.row.now in
    let (d, e, narrow) = c.requires.due in
    let other : c.args.port ≢ 1 = omega (arith, c.if-port-eq1.false) in
    steps-at row _ _ _ _ _ _ _ (leg-port c.args.port _ (row, d, e) other) (c.ask.ensures row)

pub returns-else-is_to_open-2-clause-steps : goal.returns-else-is_to_open-2-clause-steps
returns-else-is_to_open-2-clause-steps c =
    let row = c.args.row.now in
    let (d, e, narrow) = c.requires.due in
    let other : c.args.port ≢ 1 = omega (arith, c.if-port-eq1.false) in
    steps-at row _ _ _ _ _ _ _ (leg-port c.args.port _ (row, d, e) other) (c.got.ensures row)
