use Rattle.std.proofs.Common.{arith, ◌∷◌, [], sym, ◌∙◌, take}
use Rattle.std.proofs.lemmas.List.{append-nil}
use Rattle.bz_elab.specs.Entries.{singles, lists}
use Rattle.bz_elab.proofs.Slots.{row_array, row_single, first-Some, first-None, one-Some, one-None}
use Rattle.bz_elab.proofs.component.place_row.Goals as goal
use Rattle.bz_elab.proofs.component.place_row.Goals.{then-row, in-Some+in_ok-len-in-Some, in-None, else-row, in-Some-single+in_ok-len-in-Some-single, in-None-single}

pub loop-row-preserved : goal.loop-row-preserved
loop-row-preserved c =
    let rows = c.args.rows.now in
    let i = c.loop-row.row-index in
    let ks = singles c.args.entries.now in
    let ls = lists c.args.entries.now in
    let ones = c.loop-row.ones in
    let manys = c.loop-row.manys in
    let old = take c.loop-row.len c.loop-row.places in
    let inv = c.loop-row.invariant in
    elim c.if-row.branch [
      | then-row w ↦ elim w.match-list.branch [
        | in-Some+in_ok-len-in-Some v ↦
            rw (w.places-is, w.len-is, w.ones-is, w.manys-is, v.places-is, v.len-is) (record {
              so_far = row_array rows i _ ones manys ks ls old v.in-Some.members.now _ _ w.if-row.true (omega arith) v.in_ok-len-in-Some.ensures.placed
                  (first-Some ls manys _ (sym v.in-Some.ensures)) inv.so_far;
              within = omega (arith, v.in_ok-len-in-Some.ensures.within, inv.same);
              same = v.place_all.ensures.same ∙ inv.same;
              ones = omega arith;
              manys = omega arith;
            })
        | in-None v ↦
            rw (w.places-is, w.len-is, w.ones-is, w.manys-is, v.places-is, v.len-is) (record {
              so_far = row_array rows i _ ones manys ks ls old [] _ _ w.if-row.true (omega arith) (sym (append-nil old)) (first-None ls manys (sym v.in-None.ensures)) inv.so_far;
              within = inv.within;
              same = inv.same;
              ones = omega arith;
              manys = omega arith;
            })
      ]
      | else-row w ↦ elim w.match-single.branch [
        | in-Some-single+in_ok-len-in-Some-single v ↦
            rw (w.places-is, w.len-is, w.ones-is, w.manys-is, v.places-is, v.len-is) (record {
              so_far = row_single rows i _ ones manys ks ls old (v.in-Some-single.chan ∷ []) _ _ w.if-row.false (omega arith) v.in_ok-len-in-Some-single.ensures.placed
                  (one-Some ks ones _ (sym v.in-Some-single.ensures)) inv.so_far;
              within = omega (arith, v.in_ok-len-in-Some-single.ensures.within, inv.same);
              same = v.place_one.ensures.same ∙ inv.same;
              ones = omega arith;
              manys = omega arith;
            })
        | in-None-single v ↦
            rw (w.places-is, w.len-is, w.ones-is, w.manys-is, v.places-is, v.len-is) (record {
              so_far = row_single rows i _ ones manys ks ls old [] _ _ w.if-row.false (omega arith) (sym (append-nil old)) (one-None ks ones (sym v.in-None-single.ensures)) inv.so_far;
              within = inv.within;
              same = inv.same;
              ones = omega arith;
              manys = omega arith;
            })
      ]
    ]
