use Rattle.std.proofs.Common.{arith, ap, length, length-append, [], ◌∷◌, ◌≡◌, ◌<◌, true, false, ◌∙◌}
use Rattle.bz_elab.specs.declared.reading.Reading.{Reading}
use Rattle.bz_elab.specs.Numbers.{is_marked}
use Rattle.bz_elab.proofs.Reaching.{same_read}
use Rattle.bz_elab.proofs.Soundness.{part_read}
use Rattle.bz_elab.proofs.Leasts.{upto_skip, upto_all}
use Rattle.bz_elab.proofs.Looking.{read_more}
use Rattle.bz_elab.proofs.faults.read_parts.Goals as goal
use Rattle.bz_elab.proofs.faults.read_parts.Goals.{then-marks-number+in_ok-least, else-marks-number}

pub loop-number-preserved : goal.loop-number-preserved
loop-number-preserved c =
    let parts = c.args.parts.now in
    let marks = c.args.marks.now in
    let n = c.loop-number.number in
    let readings = c.loop-number.readings.items in
    let part = c.index-list-number.result in
    let inv = c.loop-number.invariant in
    let x : Reading = c.if-marks-number.reading in
    let lt : n < length parts = omega (arith, c.loop-number-test.true, ap length c.list-list.ensures.value) in
    let at = part_read parts _ n part c.list-list.ensures.value lt c.index-list-number.is in
    rw c.in_ok-push.ensures.items (elim c.if-marks-number.branch [
      | then-marks-number+in_ok-least w ↦
          let here : is_marked marks n ≡ true = same_read marks n _ _ (omega (arith, c.requires.marks, ap length c.list-list.ensures.value)) ∙ w.if-marks-number.true in
          rw w.least-is (record {
            least = w.in_ok-least.ensures.ok marks here inv.least;
            len = let k = length-append readings (x ∷ []) in omega (arith, inv.len, k);
            read = λ e. read_more parts marks n readings x part inv.len at (λ m. rw w.reading-is (w.in_ok-least.ensures.read e)) (inv.read (w.in_ok-least.ensures.kept e));
          })
      | else-marks-number w ↦
          let clear : is_marked marks n ≡ false = same_read marks n _ _ (omega (arith, c.requires.marks, ap length c.list-list.ensures.value)) ∙ w.if-marks-number.false in
          rw w.least-is (record {
            least = upto_skip parts marks n _ clear inv.least;
            len = let k = length-append readings (x ∷ []) in omega (arith, inv.len, k);
            read = λ e. read_more parts marks n readings x part inv.len at (λ m. let clash = rw clear at m in cc) (inv.read e);
          })
    ])

pub returns-clause-ok : goal.returns-clause-ok
returns-clause-ok c = upto_all c.args.parts.now c.args.marks.now c.loop-number.number c.loop-number.least (omega (arith, ap length c.list-list.ensures.value)) c.loop-number.invariant.least
