use Rattle.std.proofs.Common.{arith, ap, sym, ◌∙◌, refl, None, Some, inl, inr, subst}
use Rattle.std.proofs.lemmas.Result.{err_from_is_err_and}
use Rattle.bz_source.specs.Found.{component, instance, IsDeeper}
use Rattle.bz_source.proofs.Walking.{item_here, whole_here, inner_within, inner_number_is, leaf_step, bare_step, copy_step, deep_here, deep_below}
use Rattle.bz_source.proofs.walk.+descend.Goals as goal
use Rattle.bz_source.proofs.walk.+descend.Goals.{in-None+in_ok-place_at-in-None+in_ok-push-in-None, in-Some+then-not-ground-inner+else-depth-eq0+in_ok-place_at-in-Some+in_ok-push-in-Some+in_ok-path-in-Some+in_ok-add_own-in-Some+in_ok-descend-in-Some, in-Some+else-not-ground-inner}

pub bounds-ground-inner : goal.bounds-ground-inner
bounds-ground-inner t c =
    let it = item_here c.args.ground.parts.now c.args.ground.inner.now c.args.number c.loop-i.i c.index-ground-number.result c.deref-inner-items.result.now (Some c.in-Some.inner) c.requires.inner c.requires.within c.index-ground-number.is c.deref-inner-items.ensures.value c.loop-i-test.true c.in-Some.is in
    omega (arith, c.requires.bare.len, inner_within c.args.ground.parts.now c.args.number c.loop-i.i c.in-Some.inner it)

pub returns-then-depth-eq0-clause-err : goal.returns-then-depth-eq0-clause-err
returns-then-depth-eq0-clause-err t c =
    let it = item_here c.args.ground.parts.now c.args.ground.inner.now c.args.number c.loop-i.i c.index-ground-number.result c.deref-inner-items.result.now (Some c.in-Some.inner) c.requires.inner c.requires.within c.index-ground-number.is c.deref-inner-items.ensures.value c.loop-i-test.true c.in-Some.is in
    inr (refl, subst (IsDeeper c.args.ground.parts.now c.args.number) (sym c.if-depth-eq0.true) (deep_here c.args.ground.parts.now c.args.number _ c.in-Some.inner (inner_number_is c.args.ground.parts.now c.args.number c.loop-i.i c.in-Some.inner it)))

pub add_own-requires : goal.add_own-requires
add_own-requires t c =
    let it = item_here c.args.ground.parts.now c.args.ground.inner.now c.args.number c.loop-i.i c.index-ground-number.result c.deref-inner-items.result.now (Some c.in-Some.inner) c.requires.inner c.requires.within c.index-ground-number.is c.deref-inner-items.ensures.value c.loop-i-test.true c.in-Some.is in
    inner_within c.args.ground.parts.now c.args.number c.loop-i.i c.in-Some.inner it

pub descend-requires : goal.descend-requires
descend-requires t c =
    let it = item_here c.args.ground.parts.now c.args.ground.inner.now c.args.number c.loop-i.i c.index-ground-number.result c.deref-inner-items.result.now (Some c.in-Some.inner) c.requires.inner c.requires.within c.index-ground-number.is c.deref-inner-items.ensures.value c.loop-i-test.true c.in-Some.is in
    (omega (arith, c.decreases, c.if-depth-eq0.false), (inner_within c.args.ground.parts.now c.args.number c.loop-i.i c.in-Some.inner it, (c.requires.inner, c.requires.bare)))

pub returns-in_err-descend-in-Some-clause-err : goal.returns-in_err-descend-in-Some-clause-err
returns-in_err-descend-in-Some-clause-err t c =
    let it = item_here c.args.ground.parts.now c.args.ground.inner.now c.args.number c.loop-i.i c.index-ground-number.result c.deref-inner-items.result.now (Some c.in-Some.inner) c.requires.inner c.requires.within c.index-ground-number.is c.deref-inner-items.ensures.value c.loop-i-test.true c.in-Some.is in
    let p = err_from_is_err_and c.from_residual-in_err-descend-in-Some.result c.from_residual-in_err-descend-in-Some.ensures.1 in
    rw (p.1, p.2) (elim c.in_err-descend-in-Some.ensures.err [
      | inl e ↦ inl e
      | inr d ↦ inr (d.0, deep_below c.args.ground.parts.now c.args.number _ c.in-Some.inner c.args.depth (omega (arith, c.if-depth-eq0.false)) (inner_number_is c.args.ground.parts.now c.args.number c.loop-i.i c.in-Some.inner it) d.1)
    ])

pub loop-i-preserved : goal.loop-i-preserved
loop-i-preserved t c =
    let parts = c.args.ground.parts.now in
    elim c.match-inner.branch [
      | in-None+in_ok-place_at-in-None+in_ok-push-in-None w ↦
          let it = item_here c.args.ground.parts.now c.args.ground.inner.now c.args.number c.loop-i.i c.index-ground-number.result c.deref-inner-items.result.now None c.requires.inner c.requires.within c.index-ground-number.is c.deref-inner-items.ensures.value c.loop-i-test.true w.in-None.is in
          rw w.finds-is (leaf_step parts c.args.number c.args.path.now c.args.depth c.loop-i.i c.args.finds.now.items c.loop-i.finds.items w.push.new.self.items _ it c.loop-i.invariant w.in_ok-push-in-None.ensures.items
          (ap component w.in_ok-place_at-in-None.ensures))
      | in-Some+then-not-ground-inner+else-depth-eq0+in_ok-place_at-in-Some+in_ok-push-in-Some+in_ok-path-in-Some+in_ok-add_own-in-Some+in_ok-descend-in-Some w ↦
          let it = item_here c.args.ground.parts.now c.args.ground.inner.now c.args.number c.loop-i.i c.index-ground-number.result c.deref-inner-items.result.now (Some w.in-Some.inner) c.requires.inner c.requires.within c.index-ground-number.is c.deref-inner-items.ensures.value c.loop-i-test.true w.in-Some.is in
          rw w.finds-is (copy_step parts c.args.number c.args.path.now c.args.depth c.loop-i.i w.in-Some.inner c.args.finds.now.items c.loop-i.finds.items w.push-then-not-ground-inner.new.self.items w.add_own.new.finds.items w.descend.new.finds.items w.settle.new.finds.items _
          w.as_slice.result.now w.as_slice-then-not-ground-inner.result.now w.len-upto.result it (omega (arith, w.if-depth-eq0.false)) c.loop-i.invariant w.in_ok-push-in-Some.ensures.items (ap instance w.in_ok-place_at-in-Some.ensures)
          (w.as_slice.ensures.value ∙ w.in_ok-path-in-Some.ensures) (w.as_slice-then-not-ground-inner.ensures.value ∙ w.in_ok-path-in-Some.ensures) w.in_ok-add_own-in-Some.ensures w.in_ok-descend-in-Some.ensures.ok (omega (arith, w.len-upto.ensures)) w.settle.ensures)
      | in-Some+else-not-ground-inner w ↦
          let it = item_here c.args.ground.parts.now c.args.ground.inner.now c.args.number c.loop-i.i c.index-ground-number.result c.deref-inner-items.result.now (Some w.in-Some.inner) c.requires.inner c.requires.within c.index-ground-number.is c.deref-inner-items.ensures.value c.loop-i-test.true w.in-Some.is in
          rw w.finds-is (bare_step parts c.args.number c.args.path.now c.args.depth c.loop-i.i w.in-Some.inner c.args.ground.bare.now c.args.finds.now.items c.loop-i.finds.items it c.requires.bare w.if-not-ground-inner.false c.loop-i.invariant)
    ]

pub returns-clause-ok : goal.returns-clause-ok
returns-clause-ok t c =
    let whole = whole_here c.args.ground.parts.now c.args.ground.inner.now c.args.number c.loop-i.i c.index-ground-number.result c.deref-inner-items.result.now c.requires.inner c.requires.within c.index-ground-number.is c.deref-inner-items.ensures.value c.loop-i-test.false in
    rw whole at c.loop-i.invariant
