use Rattle.std.proofs.Common.{arith, sym, ◌∙◌, List, subst}
use Rattle.std.proofs.lemmas.List.{take_all}
use Rattle.bz_breeze_records.specs.declared.part.Component.{Component}
use Rattle.bz_elab.specs.Numbers.{IsHighest}
use Rattle.bz_elab.proofs.Slots.{take_item}
use Rattle.bz_elab.proofs.Ranking.{highest_same, highest_more, upto_if}
use Rattle.bz_elab.proofs.reach.highest.Goals as goal
use Rattle.bz_elab.proofs.reach.highest.Goals.{in-Some, in_default}

pub loop-component-preserved : goal.loop-component-preserved
loop-component-preserved c =
    let parts = c.args.parts.now in
    let ranks = c.args.ranks.now in
    let items = c.deref-component-items.result.now in
    let i = c.loop-component.component-index in
    let x = c.component-item.result in
    rw (take_item items i x (omega (arith, c.loop-component-test.true)) c.component-item.is) (elim c.match-find.branch [
      | in-Some w ↦
          let some = sym (rw c.as_slice.ensures.value at w.in-Some.ensures.number) in
          rw w.highest-is (highest_more parts ranks _ x c.loop-component.highest _ _ some (rw w.number_at.ensures at w.higher.ensures.this) (upto_if c.loop-component.highest _ w.higher.ensures.before) c.loop-component.invariant)
      | in_default w ↦
          let none = sym (rw c.as_slice.ensures.value at w.in_default.ensures.number) in
          rw w.highest-is (highest_same parts ranks _ x c.loop-component.highest none c.loop-component.invariant)
    ])

pub returns : goal.returns
returns c =
    let whole = take_all c.loop-component.component-index c.deref-component-items.result.now (omega (arith, c.loop-component-test.false)) ∙ c.deref-component-items.ensures.value in
    subst (λ (xs : List Component). IsHighest c.args.parts.now c.args.ranks.now xs c.loop-component.highest) whole c.loop-component.invariant
