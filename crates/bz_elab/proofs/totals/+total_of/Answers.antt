use Rattle.std.proofs.Common.{arith, length, List, refl, sym, ◌∙◌, ap, suc, subst}
use Rattle.std.proofs.lemmas.Option.{slice_get_within}
use Rattle.bz_breeze_records.specs.declared.part.Component.{Component}
use Rattle.bz_elab.specs.Totals.{IsDeeper}
use Rattle.bz_elab.proofs.Growing.{component_at}
use Rattle.bz_elab.proofs.Reaching.{same_read}
use Rattle.bz_elab.proofs.Soundness.{part_read}
use Rattle.bz_elab.proofs.Totaling.{TotalUpTo, total_start, total_leaf, total_copy, total_all, totals_set, deeper_inner, deeper_here, deeper_total, inner_of}
use Rattle.bz_elab.proofs.totals.+total_of.Goals as goal
use Rattle.bz_elab.proofs.totals.+total_of.Goals.{in-None, in-Some-find+else-depth-eq0+in-Some-total_of}

pub returns-then-total-depth-clause-found : goal.returns-then-total-depth-clause-found
returns-then-total-depth-clause-found t c =
    c.requires.totals.are c.args.number c.in-Some.total c.args.part.now
    (let w = slice_get_within c.args.parts.now c.args.number c.args.part.now c.requires.part_is in same_read c.args.totals.now c.args.number _ _ (omega (arith, w, c.requires.totals.len)) ∙ c.in-Some.is) c.requires.part_is

pub returns-else-total-depth-clause-none : goal.returns-else-total-depth-clause-none
returns-else-total-depth-clause-none t c =
    let is = c.requires.totals.are c.args.number c.in-Some.total c.args.part.now
    (let w = slice_get_within c.args.parts.now c.args.number c.args.part.now c.requires.part_is in same_read c.args.totals.now c.args.number _ _ (omega (arith, w, c.requires.totals.len)) ∙ c.in-Some.is) c.requires.part_is in
    deeper_total c.args.parts.now c.args.part.now c.in-Some.total c.args.depth is (omega (arith, c.if-total-depth.false))

pub loop-component-init : goal.loop-component-init
loop-component-init t c = record {
  upto = total_start c.args.parts.now c.args.part.now c.deref-component-items.result.now _ refl refl refl refl;
  within = omega arith;
  totals = c.requires.totals;
  len = refl;
}

pub returns-then-depth-eq0-clause-none : goal.returns-then-depth-eq0-clause-none
returns-then-depth-eq0-clause-none t c =
    let parts = c.args.parts.now in
    let part = c.args.part.now in
    let (p, at) = inner_of parts part c.deref-component-items.result.now c.loop-component.component-index c.component-item.result c.in-Some-find.inner c.deref-component-items.ensures.value c.component-item.is (omega arith)
    (rw c.as_slice.ensures.value at c.in-Some-find.ensures.part) c.in-Some-find.ensures.within in
    subst (λ n. IsDeeper parts part n) (sym c.if-depth-eq0.true) (deeper_here parts part p (suc c.loop-component.component-index) at)

pub total_of-requires : goal.total_of-requires
total_of-requires t c =
    let inner = part_read c.args.parts.now _ c.in-Some-find.inner c.index-list-inner.result c.list.ensures.value c.in-Some-find.ensures.within c.index-list-inner.is in
    (omega (arith, c.decreases, c.if-depth-eq0.false), (c.requires.whole, (inner, (omega (arith, c.requires.few), c.loop-component.invariant.totals))))

pub returns-in-None-total_of-clause-none : goal.returns-in-None-total_of-clause-none
returns-in-None-total_of-clause-none t c =
    let parts = c.args.parts.now in
    let part = c.args.part.now in
    let i = c.loop-component.component-index in
    let has = component_at part c.deref-component-items.result.now i c.component-item.result c.deref-component-items.ensures.value c.component-item.is (omega arith) in
    let read = part_read parts _ c.in-Some-find.inner c.index-list-inner.result c.list.ensures.value c.in-Some-find.ensures.within c.index-list-inner.is in
    let some = sym (rw c.as_slice.ensures.value at c.in-Some-find.ensures.part) ∙ read in
    deeper_inner parts part c.index-list-inner.result (suc i) c.args.depth (rw has some) (omega (arith, c.if-depth-eq0.false)) c.in-None-total_of.ensures.none

pub loop-component-preserved : goal.loop-component-preserved
loop-component-preserved t c =
    let parts = c.args.parts.now in
    let part = c.args.part.now in
    let items = c.deref-component-items.result.now in
    let i = c.loop-component.component-index in
    let x = c.component-item.result in
    let inv = c.loop-component.invariant in
    let has = component_at part items i x c.deref-component-items.ensures.value c.component-item.is (omega arith) in
    elim c.match-find.branch [
      | in-None w ↦
          let none = sym (rw c.as_slice.ensures.value at w.in-None.ensures.part) in
          rw (w.totals-is, w.total-is) (record {
            upto = total_leaf parts part items i x _ _ inv.upto (omega arith) c.component-item.is has none w.with_leaf-total.ensures.height w.with_leaf-total.ensures.small w.with_leaf-total.ensures.brings;
            within = omega (arith, inv.within, w.with_leaf-total.ensures.height);
            totals = inv.totals;
            len = inv.len;
          })
      | in-Some-find+else-depth-eq0+in-Some-total_of w ↦
          let read = part_read parts _ w.in-Some-find.inner w.index-list-inner.result w.list.ensures.value w.in-Some-find.ensures.within w.index-list-inner.is in
          let some = sym (rw c.as_slice.ensures.value at w.in-Some-find.ensures.part) ∙ read in
          let e = w.with_copy-total.ensures in
          let found = w.in-Some-total_of.ensures.found in
          let depth = w.in-Some-total_of.ensures.within in
          rw (w.totals-is, w.total-is) (record {
            upto = total_copy parts part items i x w.index-list-inner.result _ _ _ inv.upto (omega arith) c.component-item.is has some found e.height_from e.height_below e.height_is e.small e.brings;
            within = let h = e.height_is in omega (arith, inv.within, depth, h, w.if-depth-eq0.false);
            totals = w.in-Some-total_of.ensures.totals;
            len = w.in-Some-total_of.ensures.totals.len ∙ sym c.requires.totals.len;
          })
    ]

pub returns-clause-found : goal.returns-clause-found
returns-clause-found t c =
    let same = c.deref-component-items.ensures.value in
    total_all c.args.parts.now c.args.part.now c.loop-component.component-index c.loop-component.total
    (subst (λ (xs : List Component). TotalUpTo c.args.parts.now c.args.part.now xs c.loop-component.component-index c.loop-component.total) same c.loop-component.invariant.upto)
    (omega (arith, ap length same))

pub returns-clause-totals : goal.returns-clause-totals
returns-clause-totals t c =
    let same = c.deref-component-items.ensures.value in
    let is = total_all c.args.parts.now c.args.part.now c.loop-component.component-index c.loop-component.total
    (subst (λ (xs : List Component). TotalUpTo c.args.parts.now c.args.part.now xs c.loop-component.component-index c.loop-component.total) same c.loop-component.invariant.upto)
    (omega (arith, ap length same)) in
    totals_set c.args.parts.now c.loop-component.totals c.args.number c.args.part.now c.loop-component.total c.loop-component.invariant.totals c.requires.part_is
    (slice_get_within c.args.parts.now c.args.number c.args.part.now c.requires.part_is) is
