use Rattle.std.proofs.Common.{arith, ◌≡◌, ap, sym, ◌∙◌}
use Rattle.bz_elab.specs.Order.{order}
use Rattle.bz_elab.specs.Paths.{instance, leaf_role, role_by}
use Rattle.bz_elab.proofs.Looking.{seen_is, wrong_is}
use Rattle.bz_elab.proofs.Soundness.{part_read}
use Rattle.bz_elab.proofs.faults.look.Goals as goal
use Rattle.bz_elab.proofs.faults.look.Goals.{in-None+in-Err, in-Some+in-Err-instance_of}

pub returns-in-Ok-instance_of-clause-ok : goal.returns-in-Ok-instance_of-clause-ok
returns-in-Ok-instance_of-clause-ok c =
    let parts = c.args.parts.now in
    let part = c.index-list-inner.result in
    let read = part_read parts _ c.in-Some.inner part c.list.ensures.value c.in-Some.ensures.within c.index-list-inner.is in
    let some = sym (rw c.as_slice.ensures.value at c.in-Some.ensures.part) ∙ read in
    let number = sym (rw c.as_slice.ensures.value at c.in-Some.ensures.number) in
    let ok = c.in-Ok-instance_of.ensures.ok in
    seen_is parts c.args.channels.now c.args.component.now c.in-Some.inner part _ c.seen_copy.result some number read ok.0 ok.1 c.seen_copy.ensures

pub returns-clause-ok : goal.returns-clause-ok
returns-clause-ok c =
    let parts = c.args.parts.now in
    let x = c.args.component.now in
    let real : order c.match-find.fault ≡ 0 → ⊥ = λ e. omega (arith, e, c.order.ensures, c.if-order-eq0.false) in
    elim c.match-find.branch [
      | in-None+in-Err w ↦
          let none = sym (rw c.as_slice.ensures.value at w.in-None.ensures.part) in
          wrong_is parts c.args.channels.now x (leaf_role x) c.match-find.fault (ap (λ o. role_by o x) none) (rw w.fault-is w.in-Err.ensures.err) (rw w.fault-is w.in-Err.ensures.first) real
      | in-Some+in-Err-instance_of w ↦
          let read = part_read parts _ w.in-Some.inner w.index-list-inner.result w.list.ensures.value w.in-Some.ensures.within w.index-list-inner.is in
          let some = sym (rw c.as_slice.ensures.value at w.in-Some.ensures.part) ∙ read in
          wrong_is parts c.args.channels.now x (instance w.index-list-inner.result) c.match-find.fault (ap (λ o. role_by o x) some) (rw w.fault-is w.in-Err-instance_of.ensures.err) (rw w.fault-is w.in-Err-instance_of.ensures.first) real
    ]
