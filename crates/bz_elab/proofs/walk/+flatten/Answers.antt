use Rattle.std.proofs.Common.{arith, ◌+◌, [], ◌<◌, drop, length, sym, ◌∙◌, ap, suc, subst, refl, add-one}
use Rattle.std.proofs.lemmas.Option.{slice_get_within}
use Rattle.std.proofs.lemmas.Result.{err_from_is_err_and}
use Rattle.bz_breeze_records.specs.declared.part.Part.{Part}
use Rattle.bz_elab.specs.Refusals.{HasPortChannels}
use Rattle.bz_elab.proofs.Growing.{component_at}
use Rattle.bz_elab.proofs.Soundness.{part_read}
use Rattle.bz_elab.proofs.Failing.{leaf_fails, copy_fails, deeper_fails, deep_ends}
use Rattle.bz_elab.proofs.Items.{reading_of, so_far_start, next_at, next_leaf, no_leaf, all_at, leaf_within, numbers_fit, inside_fits, upto_fits, item_is, copy_of, short_less, read_below, inner_component, upto_leaf, upto_copy, refused_leaf, refused_copy, same_above}
use Rattle.bz_elab.proofs.walk.+flatten.Goals as goal
use Rattle.bz_elab.proofs.walk.+flatten.Goals.{in-Leaf+in_ok-add_leaf-in-Leaf, in-Copy+else-depth-eq0+in_ok-add_copy-in-Copy+in_ok-flatten-in-Copy}

pub loop-place-init : goal.loop-place-init
loop-place-init t c =
    let reading = c.index-readings-number.result in
    let read = reading_of c.args.parts.now c.args.number c.args.part.now c.args.readings.now reading c.requires.part_is c.requires.read c.index-readings-number.is in
    (c.requires.draft, so_far_start c.args.parts.now c.args.part.now (drop c.args.depth c.args.levels.now) c.args.depth c.args.draft.now _ _ refl read)

pub add_leaf-requires-clause-chans : goal.add_leaf-requires-clause-chans
add_leaf-requires-clause-chans t c =
    let next = next_leaf c.args.parts.now c.args.part.now (drop c.args.depth c.args.levels.now) c.args.depth _ _ c.index-readings-number.result.leaves _ c.loop-place.place c.get-leaf.result.now c.requires.short c.loop-place.invariant.1 (omega (arith, c.loop-place-test.true)) (rw c.at.ensures at c.get-leaf.ensures) in
    let few = c.loop-place.invariant.0.chans_few in
    rw c.from_depth.ensures
    (numbers_fit (drop c.args.depth c.args.levels.now) _ _ _ (upto_fits c.args.parts.now c.args.part.now (drop c.args.depth c.args.levels.now) c.args.depth _ _ next.at _ next.upto c.requires.levels) (omega (arith, few))
    (leaf_within c.args.part.now.channels.items next.comp c.get-leaf.result.now next.item.1))

pub add_leaf-requires-clause-draft : goal.add_leaf-requires-clause-draft
add_leaf-requires-clause-draft t c = c.loop-place.invariant.0

pub returns-in_err-add_leaf-clause-err : goal.returns-in_err-add_leaf-clause-err
returns-in_err-add_leaf-clause-err t c =
    let p = err_from_is_err_and c.from_residual.result c.from_residual.ensures.1 in
    let next = next_leaf c.args.parts.now c.args.part.now (drop c.args.depth c.args.levels.now) c.args.depth _ _ c.index-readings-number.result.leaves _ c.loop-place.place c.get-leaf.result.now c.requires.short c.loop-place.invariant.1 (omega (arith, c.loop-place-test.true)) (rw c.at.ensures at c.get-leaf.ensures) in
    rw (p.1, p.2) (leaf_fails c.args.parts.now c.args.part.now c.args.number c.args.depth next.at c.args.part.now.components.items next.comp _ _ _
    c.requires.part_is refl next.lt next.is next.item.0 next.upto.counts (refused_leaf c.args.part.now.channels.items next.comp c.get-leaf.result.now c.loop-place.draft _ _ _ next.item.1 c.in_err-add_leaf.ensures.err))

pub loop-place-preserved : goal.loop-place-preserved
loop-place-preserved t c =
    let parts = c.args.parts.now in
    let part = c.args.part.now in
    let next = next_leaf parts part (drop c.args.depth c.args.levels.now) c.args.depth _ _ c.index-readings-number.result.leaves _ c.loop-place.place c.get-leaf.result.now c.requires.short c.loop-place.invariant.1 (omega (arith, c.loop-place-test.true)) (rw c.at.ensures at c.get-leaf.ensures) in
    rw add-one (
      c.add_leaf.ensures.within,
      record {
        at = next.at + 1;
        upto = upto_leaf parts part (drop c.args.depth c.args.levels.now) c.args.depth c.args.draft.now c.loop-place.draft c.add_leaf.new.draft next.at next.comp c.get-leaf.result.now next.lt next.is next.item.0 next.item.1
            (rw c.from_depth.ensures at c.in_ok-add_leaf.ensures.ok) next.upto;
        rest = next.rest;
      },
    )

pub loop-item-init : goal.loop-item-init
loop-item-init t c =
    let reading = c.index-readings-number.result in
    let rest = no_leaf c.args.parts.now c.args.part.now (drop c.args.depth c.args.levels.now) c.args.depth c.args.draft.now c.loop-place.draft c.index-readings-number.result.leaves reading.items.items c.loop-place.place c.loop-place.invariant.1 (omega (arith, c.loop-place-test.false)) in
    record { within = c.loop-place.invariant.0; so_far = rw c.deref-item-items.ensures.value rest; above = refl; long = refl }

pub add_leaf-requires-in-Leaf-clause-chans : goal.add_leaf-requires-in-Leaf-clause-chans
add_leaf-requires-in-Leaf-clause-chans t c =
    let next = next_at c.args.parts.now c.args.part.now (drop c.args.depth c.args.levels.now) c.args.depth _ _ c.deref-item-items.result.now c.loop-item.item-index c.item-item.result c.requires.short c.loop-item.invariant.so_far (omega (arith, c.loop-item-test.true)) c.item-item.is in
    let item = item_is c.args.parts.now c.args.part.now.channels.items next.comp _ _ c.in-Leaf.is next.item in
    let few = c.loop-item.invariant.within.chans_few in
    rw (c.from_depth-in-Leaf.ensures, c.loop-item.invariant.above)
    (numbers_fit (drop c.args.depth c.args.levels.now) _ _ _ (upto_fits c.args.parts.now c.args.part.now (drop c.args.depth c.args.levels.now) c.args.depth _ _ next.at _ next.upto c.requires.levels) (omega (arith, few))
    (leaf_within c.args.part.now.channels.items next.comp c.in-Leaf.named item.1))

pub returns-in_err-add_leaf-in-Leaf-clause-err : goal.returns-in_err-add_leaf-in-Leaf-clause-err
returns-in_err-add_leaf-in-Leaf-clause-err t c =
    let p = err_from_is_err_and c.from_residual-in_err-add_leaf-in-Leaf.result c.from_residual-in_err-add_leaf-in-Leaf.ensures.1 in
    let next = next_at c.args.parts.now c.args.part.now (drop c.args.depth c.args.levels.now) c.args.depth _ _ c.deref-item-items.result.now c.loop-item.item-index c.item-item.result c.requires.short c.loop-item.invariant.so_far (omega (arith, c.loop-item-test.true)) c.item-item.is in
    let item = item_is c.args.parts.now c.args.part.now.channels.items next.comp _ _ c.in-Leaf.is next.item in
    rw (p.1, p.2) (leaf_fails c.args.parts.now c.args.part.now c.args.number c.args.depth next.at c.args.part.now.components.items next.comp _ _ _
    c.requires.part_is refl next.lt next.is item.0 next.upto.counts (refused_leaf c.args.part.now.channels.items next.comp c.in-Leaf.named c.loop-item.draft _ _ _ item.1 c.in_err-add_leaf-in-Leaf.ensures.err))

pub returns-then-depth-eq0-clause-err : goal.returns-then-depth-eq0-clause-err
returns-then-depth-eq0-clause-err t c top path at full =
    let next = next_at c.args.parts.now c.args.part.now (drop c.args.depth c.args.levels.now) c.args.depth _ _ c.deref-item-items.result.now c.loop-item.item-index c.item-item.result c.requires.short c.loop-item.invariant.so_far (omega (arith, c.loop-item-test.true)) c.item-item.is in
    let copy = item_is c.args.parts.now c.args.part.now.channels.items next.comp _ _ c.in-Copy.is next.item in
    deep_ends c.args.parts.now top c.args.part.now copy.part c.args.draft.now [] path (suc next.at) next.comp at
    (component_at c.args.part.now c.args.part.now.components.items next.at next.comp refl next.is next.lt)
    copy.is_named (omega (arith, full, c.if-depth-eq0.true))

pub bounds-list-instance : goal.bounds-list-instance
bounds-list-instance t c =
    let next = next_at c.args.parts.now c.args.part.now (drop c.args.depth c.args.levels.now) c.args.depth _ _ c.deref-item-items.result.now c.loop-item.item-index c.item-item.result c.requires.short c.loop-item.invariant.so_far (omega (arith, c.loop-item-test.true)) c.item-item.is in
    let copy = item_is c.args.parts.now c.args.part.now.channels.items next.comp _ _ c.in-Copy.is next.item in
    let w = slice_get_within c.args.parts.now c.in-Copy.instance.part copy.part copy.stands in
    omega (arith, w, ap length c.list.ensures.value)

pub offset_bounds-list-instance : goal.offset_bounds-list-instance
offset_bounds-list-instance t c =
    let next = next_at c.args.parts.now c.args.part.now (drop c.args.depth c.args.levels.now) c.args.depth _ _ c.deref-item-items.result.now c.loop-item.item-index c.item-item.result c.requires.short c.loop-item.invariant.so_far (omega (arith, c.loop-item-test.true)) c.item-item.is in
    let copy = item_is c.args.parts.now c.args.part.now.channels.items next.comp _ _ c.in-Copy.is next.item in
    let w = slice_get_within c.args.parts.now c.in-Copy.instance.part copy.part copy.stands in
    omega (arith, w, ap length c.list.ensures.value, c.list.type_inv)

pub add_copy-requires-clause-inner : goal.add_copy-requires-clause-inner
add_copy-requires-clause-inner t c =
    let next = next_at c.args.parts.now c.args.part.now (drop c.args.depth c.args.levels.now) c.args.depth _ _ c.deref-item-items.result.now c.loop-item.item-index c.item-item.result c.requires.short c.loop-item.invariant.so_far (omega (arith, c.loop-item-test.true)) c.item-item.is in
    let copy = item_is c.args.parts.now c.args.part.now.channels.items next.comp _ _ c.in-Copy.is next.item in
    let w = slice_get_within c.args.parts.now c.in-Copy.instance.part copy.part copy.stands in
    subst (λ (p : Part). HasPortChannels p) (sym (rw c.list.ensures.value at c.index-list-instance.is)) (c.requires.whole c.in-Copy.instance.part c.index-list-instance.result w)

pub returns-in_err-add_copy-in-Copy-clause-err : goal.returns-in_err-add_copy-in-Copy-clause-err
returns-in_err-add_copy-in-Copy-clause-err t c =
    let p = err_from_is_err_and c.from_residual-in_err-add_copy-in-Copy.result c.from_residual-in_err-add_copy-in-Copy.ensures.1 in
    let next = next_at c.args.parts.now c.args.part.now (drop c.args.depth c.args.levels.now) c.args.depth _ _ c.deref-item-items.result.now c.loop-item.item-index c.item-item.result c.requires.short c.loop-item.invariant.so_far (omega (arith, c.loop-item-test.true)) c.item-item.is in
    let it = item_is c.args.parts.now c.args.part.now.channels.items next.comp _ _ c.in-Copy.is next.item in
    let w = slice_get_within c.args.parts.now c.in-Copy.instance.part it.part it.stands in
    let read = part_read c.args.parts.now _ c.in-Copy.instance.part c.index-list-instance.result c.list.ensures.value w c.index-list-instance.is in
    let copy = copy_of c.args.parts.now c.args.part.now.channels.items next.comp c.in-Copy.instance c.index-list-instance.result it read in
    rw (p.1, p.2) (copy_fails c.args.parts.now c.args.part.now c.index-list-instance.result c.args.number c.args.depth next.at c.args.part.now.components.items next.comp _ _ _
    c.requires.part_is refl next.lt next.is copy.is_named (omega (arith, c.if-depth-eq0.false)) next.upto.counts
    (refused_copy c.args.part.now.channels.items next.comp c.index-list-instance.result c.loop-item.draft _ _ _ c.in_err-add_copy-in-Copy.ensures.err))

pub flatten-requires : goal.flatten-requires
flatten-requires t c =
    let parts = c.args.parts.now in
    let part = c.args.part.now in
    let next = next_at c.args.parts.now c.args.part.now (drop c.args.depth c.args.levels.now) c.args.depth _ _ c.deref-item-items.result.now c.loop-item.item-index c.item-item.result c.requires.short c.loop-item.invariant.so_far (omega (arith, c.loop-item-test.true)) c.item-item.is in
    let it = item_is c.args.parts.now c.args.part.now.channels.items next.comp _ _ c.in-Copy.is next.item in
    let w = slice_get_within parts c.in-Copy.instance.part it.part it.stands in
    let read = part_read parts _ c.in-Copy.instance.part c.index-list-instance.result c.list.ensures.value w c.index-list-instance.is in
    let copy = copy_of parts part.channels.items next.comp c.in-Copy.instance c.index-list-instance.result it read in
    let has = component_at part part.components.items next.at next.comp refl next.is next.lt in
    let on = rw (c.as_slice.ensures.value, c.loop-item.invariant.above) at c.in_ok-add_copy-in-Copy.ensures.ok in
    let long = c.in_ok-add_copy-in-Copy.ensures.long in
    let below = inner_component parts part c.index-list-instance.result (suc next.at) next.comp has copy.is_named in (
      omega (arith, c.decreases, c.if-depth-eq0.false),
      (
        c.requires.whole,
        (
          read,
          (
            inside_fits parts part.channels.items (drop c.args.depth c.args.levels.now) _ next.comp c.in-Copy.instance c.index-list-instance.result c.loop-item.draft c.add_copy.new.draft copy on
                (upto_fits parts part (drop c.args.depth c.args.levels.now) c.args.depth _ _ next.at _ next.upto c.requires.levels),
            (
              omega (arith, c.requires.room, c.loop-item.invariant.long, long),
              (
                read_below parts c.args.number c.in-Copy.instance.part (suc next.at) part next.comp c.args.readings.now c.requires.part_is has copy.number c.requires.read,
                (
                  short_less parts part c.index-list-instance.result (suc next.at) c.args.depth (omega (arith, c.if-depth-eq0.false)) c.requires.short below,
                  c.add_copy.ensures.within,
                ),
              ),
            ),
          ),
        ),
      ),
    )

pub returns-in_err-flatten-in-Copy-clause-err : goal.returns-in_err-flatten-in-Copy-clause-err
returns-in_err-flatten-in-Copy-clause-err t c =
    let p = err_from_is_err_and c.from_residual-in_err-flatten-in-Copy.result c.from_residual-in_err-flatten-in-Copy.ensures.1 in
    let next = next_at c.args.parts.now c.args.part.now (drop c.args.depth c.args.levels.now) c.args.depth _ _ c.deref-item-items.result.now c.loop-item.item-index c.item-item.result c.requires.short c.loop-item.invariant.so_far (omega (arith, c.loop-item-test.true)) c.item-item.is in
    let it = item_is c.args.parts.now c.args.part.now.channels.items next.comp _ _ c.in-Copy.is next.item in
    let w = slice_get_within c.args.parts.now c.in-Copy.instance.part it.part it.stands in
    let read = part_read c.args.parts.now _ c.in-Copy.instance.part c.index-list-instance.result c.list.ensures.value w c.index-list-instance.is in
    let copy = copy_of c.args.parts.now c.args.part.now.channels.items next.comp c.in-Copy.instance c.index-list-instance.result it read in
    let added = rw c.loop-item.invariant.above at c.in_ok-add_copy-in-Copy.ensures.ok in
    rw (p.1, p.2) (deeper_fails c.args.parts.now c.args.part.now c.index-list-instance.result c.args.depth next.at c.args.part.now.components.items next.comp _ _ _ _
    refl next.lt next.is copy.is_named (omega (arith, c.if-depth-eq0.false)) next.upto.counts added.entered
    c.in_err-flatten-in-Copy.ensures.err)

pub loop-item-preserved : goal.loop-item-preserved
loop-item-preserved t c =
    let parts = c.args.parts.now in
    let part = c.args.part.now in
    let next = next_at c.args.parts.now c.args.part.now (drop c.args.depth c.args.levels.now) c.args.depth _ _ c.deref-item-items.result.now c.loop-item.item-index c.item-item.result c.requires.short c.loop-item.invariant.so_far (omega (arith, c.loop-item-test.true)) c.item-item.is in
    elim c.match-item.branch [
      | in-Leaf+in_ok-add_leaf-in-Leaf w ↦
          let item = item_is c.args.parts.now c.args.part.now.channels.items next.comp _ _ w.in-Leaf.is next.item in
          rw (w.draft-is, w.levels-is, add-one) (record {
            within = w.add_leaf-in-Leaf.ensures.within;
            so_far = record {
              at = next.at + 1;
              upto = upto_leaf parts part (drop c.args.depth c.args.levels.now) c.args.depth c.args.draft.now c.loop-item.draft w.add_leaf-in-Leaf.new.draft next.at next.comp w.in-Leaf.named next.lt next.is item.0 item.1
                  (rw (w.from_depth-in-Leaf.ensures, c.loop-item.invariant.above) at w.in_ok-add_leaf-in-Leaf.ensures.ok) next.upto;
              rest = next.rest;
            };
            above = c.loop-item.invariant.above;
            long = c.loop-item.invariant.long;
          })
      | in-Copy+else-depth-eq0+in_ok-add_copy-in-Copy+in_ok-flatten-in-Copy w ↦
          let it = item_is c.args.parts.now c.args.part.now.channels.items next.comp _ _ w.in-Copy.is next.item in
          let within = slice_get_within parts w.in-Copy.instance.part it.part it.stands in
          let read = part_read parts _ w.in-Copy.instance.part w.index-list-instance.result w.list.ensures.value within w.index-list-instance.is in
          let copy = copy_of parts part.channels.items next.comp w.in-Copy.instance w.index-list-instance.result it read in
          let on = rw (w.as_slice.ensures.value, c.loop-item.invariant.above) at w.in_ok-add_copy-in-Copy.ensures.ok in
          let pos : 0 < c.args.depth = omega (arith, w.if-depth-eq0.false) in
          let same = same_above _ _ c.args.depth pos w.in_ok-flatten-in-Copy.ensures.above in
          rw (w.draft-is, w.levels-is, add-one) (record {
            within = w.flatten.ensures.within;
            so_far = record {
              at = next.at + 1;
              upto = upto_copy parts part w.index-list-instance.result (drop c.args.depth c.args.levels.now) _ c.args.depth c.args.draft.now c.loop-item.draft w.add_copy.new.draft w.flatten.new.draft next.at next.comp
                  w.in-Copy.instance next.lt next.is copy on pos w.in_ok-flatten-in-Copy.ensures.ok w.in_ok-flatten-in-Copy.ensures.counted next.upto;
              rest = next.rest;
            };
            above = same ∙ (w.in_ok-add_copy-in-Copy.ensures.above ∙ c.loop-item.invariant.above);
            long = w.in_ok-flatten-in-Copy.ensures.long ∙ (w.in_ok-add_copy-in-Copy.ensures.long ∙ c.loop-item.invariant.long);
          })
    ]

pub returns-clause-ok : goal.returns-clause-ok
returns-clause-ok t c =
    let all = all_at c.args.parts.now c.args.part.now (drop c.args.depth c.args.levels.now) c.args.depth c.args.draft.now c.loop-item.draft c.deref-item-items.result.now c.loop-item.item-index c.requires.short c.loop-item.invariant.so_far (omega (arith, c.loop-item-test.false)) in
    all.0

pub returns-clause-counted : goal.returns-clause-counted
returns-clause-counted t c =
    let all = all_at c.args.parts.now c.args.part.now (drop c.args.depth c.args.levels.now) c.args.depth c.args.draft.now c.loop-item.draft c.deref-item-items.result.now c.loop-item.item-index c.requires.short c.loop-item.invariant.so_far (omega (arith, c.loop-item-test.false)) in
    all.1
